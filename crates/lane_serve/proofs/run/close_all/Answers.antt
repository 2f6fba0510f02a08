use Rattle.std.proofs.Common.{◌≡◌, ◌∷◌, [], ◌++◌, ◌<◌, ◌≤◌, ◌∙◌, ap, sym, subst, length, get_or, arith, rules, append_assoc}
use Rattle.std.proofs.lemmas.List.{length-append, take_all}
use Rattle.lane_serve.specs.Served.{AreServed, HasRun, IsServedLane}
use Rattle.lane_serve.specs.Script.{LaneData}
use Rattle.lane_serve.proofs.Reports.{few_requests, run_at, served_more}
use Rattle.lane_serve.proofs.run.close_all.Goals as goal

pub close_seated-requires-clause-run : goal.close_seated-requires-clause-run
close_seated-requires-clause-run g c =
    let inv = c.loop-seated.invariant in
    let past = c.loop-seated.yielded in
    let e : c.loop-seated.seated-iterator.rest.items ≡ c.in-Some.seated ∷ c.next.new.self.rest.items = search rules in
    let l = c.index-lanes-i.result in
    let whole = ap (λ k. past ++ k) (sym e) ∙ inv.1 in
    let at = run_at c.args.lanes.now c.args.seats.items past c.next.new.self.rest.items c.in-Some.seated l c.requires.run whole in
    let here = c.index-lanes-i.is ∙ ap (λ n. get_or c.args.lanes.now n l) inv.0 in
    subst (λ (k : LaneData). HasRun k.lines c.in-Some.seated.caller.kept c.in-Some.seated.replies) (sym here) at.1

pub close_seated-requires-clause-few : goal.close_seated-requires-clause-few
close_seated-requires-clause-few g c =
    let inv = c.loop-seated.invariant in
    let past = c.loop-seated.yielded in
    let e : c.loop-seated.seated-iterator.rest.items ≡ c.in-Some.seated ∷ c.next.new.self.rest.items = search rules in
    let l = c.index-lanes-i.result in
    let whole = ap (λ k. past ++ k) (sym e) ∙ inv.1 in
    let at = run_at c.args.lanes.now c.args.seats.items past c.next.new.self.rest.items c.in-Some.seated l c.requires.run whole in
    let lt : c.loop-seated.i < length c.args.lanes.now = let a = at.0 in let b = inv.0 in omega arith in
    subst (λ (k : LaneData). length k.lines ≤ 20000) (sym c.index-lanes-i.is) (few_requests c.args.lanes.now c.loop-seated.i l c.requires.lanes lt)

pub loop-seated-preserved : goal.loop-seated-preserved
loop-seated-preserved g c =
    let inv = c.loop-seated.invariant in
    let past = c.loop-seated.yielded in
    let rest = c.next.new.self.rest.items in
    let e : c.loop-seated.seated-iterator.rest.items ≡ c.in-Some.seated ∷ rest = search rules in
    let l = c.index-lanes-i.result in
    let whole = ap (λ k. past ++ k) (sym e) ∙ inv.1 in
    let at = run_at c.args.lanes.now c.args.seats.items past rest c.in-Some.seated l c.requires.run whole in
    let lt : c.loop-seated.i < length c.args.lanes.now = let a = at.0 in let b = inv.0 in omega arith in
    let report = c.in-Ok.report in
    let closing = c.in-Ok.closing in
    let served = subst (λ k. IsServedLane c.args.last.now k report closing) c.index-lanes-i.is c.in-Ok.ensures in
    let more = served_more c.args.last.now c.args.lanes.now c.loop-seated.i l c.loop-seated.reports.items c.loop-seated.closings.items report closing inv.2 lt served in (
      let n = length-append past (c.in-Some.seated ∷ []) in let i = inv.0 in omega arith,
      append_assoc past (c.in-Some.seated ∷ []) rest ∙ whole,
      rw (c.in-Ok-add_report.ensures, c.in-Ok-add_report-2.ensures) more,
      tt,
      tt,
    )

pub returns : goal.returns
returns g c =
    let inv = c.loop-seated.invariant in
    let past = c.loop-seated.yielded in
    let rest = c.loop-seated.seated-iterator.rest in
    let many : length c.args.lanes.now ≤ c.loop-seated.i =
    let none = c.in-None.ensures.steps.0 in let long = rest.ok.0 in let n = ap length inv.1 in let lanes = c.requires.run.len in let i = inv.0 in
    omega (arith, length-append past rest.items) in
    subst (λ ls. AreServed c.args.last.now ls c.loop-seated.reports.items c.loop-seated.closings.items) (take_all c.loop-seated.i c.args.lanes.now many) inv.2

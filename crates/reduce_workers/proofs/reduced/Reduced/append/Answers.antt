use Rattle.std.proofs.Common.{◌∙◌, ◌+◌, ap, refl, arith}
use Rattle.tb_base.specs.Transfers.{candidates, candidates_without_u_turns, kept_hops}
use Rattle.reduce_workers.specs.Reductions.{ReducedData}
use Rattle.reduce_workers.proofs.Counts.{count_more, generated_most, kept_most, uncut_most}
use Rattle.reduce_workers.proofs.MoreTrips.{more_trips, rows_joined, same_trips}
use Rattle.reduce_workers.proofs.reduced.Reduced.append.Goals as goal

pub overflow_add-self : goal.overflow_add-self
overflow_add-self c =
    let T = c.args.table.now in
    let lines = c.args.lines.now.lines in
    let n = c.args.self.now.trips in
    let m = c.args.more.trips in
    let before = ap (λ (r : ReducedData). r.generated) (c.self.view_is ∙ c.requires.before) in
    let more = ap (λ (r : ReducedData). r.generated) (same_trips T lines _ n m (0 + n) m (c.more.view_is ∙ c.requires.more) (omega arith) refl) in
    let few = generated_most T c.args.lines.now c.requires.lines c.soundness.ensures c.soundness-2.ensures.lines c.soundness-2.ensures.divided 0 (n + m) (omega (arith, c.requires.within)) in
    omega (arith, before, more, count_more T (candidates T lines) 0 n m, few)

pub overflow_add-self-2 : goal.overflow_add-self-2
overflow_add-self-2 c =
    let T = c.args.table.now in
    let lines = c.args.lines.now.lines in
    let n = c.args.self.now.trips in
    let m = c.args.more.trips in
    let before = ap (λ (r : ReducedData). r.after_uturn) (c.self.view_is ∙ c.requires.before) in
    let more = ap (λ (r : ReducedData). r.after_uturn) (same_trips T lines _ n m (0 + n) m (c.more.view_is ∙ c.requires.more) (omega arith) refl) in
    let few = uncut_most T c.args.lines.now c.requires.lines c.soundness.ensures c.soundness-2.ensures.lines c.soundness-2.ensures.divided 0 (n + m) (omega (arith, c.requires.within)) in
    omega (arith, before, more, count_more T (candidates_without_u_turns T lines) 0 n m, few)

pub overflow_add-self-3 : goal.overflow_add-self-3
overflow_add-self-3 c =
    let T = c.args.table.now in
    let lines = c.args.lines.now.lines in
    let n = c.args.self.now.trips in
    let m = c.args.more.trips in
    let before = ap (λ (r : ReducedData). r.kept) (c.self.view_is ∙ c.requires.before) in
    let more = ap (λ (r : ReducedData). r.kept) (same_trips T lines _ n m (0 + n) m (c.more.view_is ∙ c.requires.more) (omega arith) refl) in
    let few = kept_most T c.args.lines.now c.requires.lines c.soundness.ensures c.soundness-2.ensures.lines c.soundness-2.ensures.divided 0 (n + m) (omega (arith, c.requires.within)) in
    omega (arith, before, more, count_more T (kept_hops T lines) 0 n m, few)

pub returns-clause-added : goal.returns-clause-added
returns-clause-added c =
    let T = c.args.table.now in
    let lines = c.args.lines.now.lines in
    let n = c.args.self.now.trips in
    let m = c.args.more.trips in
    more_trips T lines 0 n m _ _ _ (c.self.view_is ∙ c.requires.before) (same_trips T lines _ n m (0 + n) m (c.more.view_is ∙ c.requires.more) (omega arith) refl) (record {
      rows = rows_joined (λ v. v.items) c.self.inside.rows.items c.more.inside.rows.items c.append.new.self.items c.in_ok-append.ensures.items;
      generated = refl;
      after_uturn = refl;
      kept = refl;
      trips = refl;
    })

use Rattle.std.proofs.Common.{◌≡◌, ◌≤◌, ◌∙◌, ap, sym, subst, length, rules}
use Rattle.query_gate.specs.Dealing.{HasAnswered, run_of}
use Rattle.query_gate.proofs.Dealt.{all_answered, dealt_at}
use Rattle.query_gate.proofs.dealing.answer_runs.Goals as goal

pub for_each_mut-requires-clause-accepts : goal.for_each_mut-requires-clause-accepts
for_each_mut-requires-clause-accepts g c κs within i p lt is =
    let whole = length c.args.requests.now in
    let at = dealt_at 0 whole c.args.places.now i p.now c.requires.dealt lt in (
      c.requires.may,
      subst (λ s. s.from ≤ s.to) (sym is) at.0,
      subst (λ s. s.to ≤ whole) (sym is) at.1,
    )

pub returns-clause-answered : goal.returns-clause-answered
returns-clause-answered g c =
    let right = g.O.Office.right c.args.office.now in
    let requests = c.args.requests.now in
    let same : length c.for_each_mut.new.s ≡ length c.args.places.now = search rules in
    all_answered right requests 0 (length requests) c.args.places.now c.for_each_mut.new.s same c.requires.dealt (λ k d lt. let s = (c.for_each_mut.ensures k d lt).1 in (
      ap (λ p. p.from) (sym s.left) ∙ s.call.0 ∙ ap (λ p. p.from) s.argument_is,
      ap (λ p. p.to) (sym s.left) ∙ s.call.1 ∙ ap (λ p. p.to) s.argument_is,
      subst (λ p. HasAnswered right (run_of requests p.from p.to) p.replies) s.left s.call.2,
    ))

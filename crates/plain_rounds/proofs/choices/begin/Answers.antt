use Rattle.std.proofs.Common.{◌≡◌, length, ap, subst, ◌∙◌, rules, None, replicate, ℤ, to_z, of_z, w32}
use Rattle.std.specs.Prelude.{FitsSigned}
use Rattle.std.proofs.lemmas.Int.{to_z-of_z}
use Rattle.tb_base.specs.BestValues.{QueryData}
use Rattle.plain_rounds.specs.declared.labels.StopLabel.{StopLabel}
use Rattle.plain_rounds.specs.Labels.{Takes, IsOfferedByOrigin}
use Rattle.plain_rounds.proofs.PlainAnswerLemmas.{round-first}
use Rattle.plain_rounds.proofs.MarkLemmas.{no_label}
use Rattle.plain_rounds.proofs.choices.begin.Goals as goal

pub returns : goal.returns
returns c =
    let T = c.args.table.now in
    let Q = c.args.query.now in
    let rounds = c.in_ok-rounds.rounds in
    let fits : FitsSigned w32 c.query.inside.leave = search rules in
    let start : StopLabel = record { time = to_z w32 (of_z w32 c.query.inside.leave); ride = None } in
    let leave : to_z w32 (of_z w32 c.query.inside.leave) ≡ Q.leave = to_z-of_z w32 c.query.inside.leave fits ∙ ap (λ (q : QueryData). q.leave) c.query.view_is in
    let is_start : ◌≡◌ {A = StopLabel} start (record { time = Q.leave; ride = None }) = ap (λ (z : ℤ). record { time = z; ride = None }) leave in
    let from_is : c.as_slice.result.now ≡ Q.from = c.as_slice.ensures.value ∙ ap (λ (q : QueryData). q.from) c.query.view_is in
    round-first T Q rounds start is_start c.in_ok-rounds.ensures.kept (λ p l h. no_label (length T.stops) p l h)
    (subst (λ ns. Takes (replicate (length T.stops) None) rounds.ready.items (IsOfferedByOrigin T ns start)) from_is c.in_ok-rounds.ensures.ready)
    c.in_ok-rounds.ensures.arrivals c.in_ok-rounds.ensures.few

use Rattle.std.proofs.Common.{◌≡◌, ◌≤◌, List, Option, None, length, arith, sym, ap, subst, ◌∙◌, replicate}
use Rattle.std.specs.Prelude.{sum}
use Rattle.std.proofs.lemmas.List.{with_items_is}
use Rattle.plain_rounds.specs.declared.labels.StopLabel.{StopLabel}
use Rattle.plain_rounds.specs.Labels.{Takes, IsOfferedByOrigin}
use Rattle.plain_rounds.proofs.MarkLemmas.{boarded_at-few}
use Rattle.plain_rounds.proofs.rounds.Rounds.new.Goals as goal

pub returns-clause-ready : goal.returns-clause-ready
returns-clause-ready c =
    let old = c.in_ok-ready.ready in
    let new = c.offer_origins.new.labels in
    let long : length new ≡ old.len = omega (arith, c.offer_origins.ensures.long, c.as_mut_slice.ensures.len) in
    let empty : ◌≡◌ {A = List (Option StopLabel)} c.as_mut_slice.result.now (replicate (length c.args.table.now.stops) None) = c.as_mut_slice.ensures.value ∙ c.in_ok-ready.ensures ∙ ap (λ n. replicate n None) c.stop_count.ensures in
    subst (λ xs. Takes (replicate (length c.args.table.now.stops) None) xs (IsOfferedByOrigin c.args.table.now c.args.origins.now c.args.start)) (sym (with_items_is old new long))
    (subst (λ xs. Takes xs new (IsOfferedByOrigin c.args.table.now c.args.origins.now c.args.start)) empty c.offer_origins.ensures)

pub returns-clause-few : goal.returns-clause-few
returns-clause-few c = subst (λ ms. sum ms ≤ 10000000) (sym c.in_ok-boarded_at.ensures) (boarded_at-few c.args.table.now c.soundness.ensures)

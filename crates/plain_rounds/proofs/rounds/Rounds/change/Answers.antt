use Rattle.std.proofs.Common.{◌≡◌, length, arith, sym, subst}
use Rattle.std.proofs.lemmas.List.{with_items_is}
use Rattle.plain_rounds.specs.Labels.{Takes, IsOfferedByChange}
use Rattle.plain_rounds.proofs.rounds.Rounds.change.Goals as goal

pub returns-clause-takes : goal.returns-clause-takes
returns-clause-takes c =
    let r = c.args.self.now in
    let new = c.offer_all_changes.new.labels in
    let long : length new ≡ r.ready.len = omega (arith, c.offer_all_changes.ensures.long, c.as_mut_slice.ensures.len) in
    subst (λ xs. Takes r.ready.items xs (IsOfferedByChange c.args.table.now r.arrivals.labels.items)) (sym (with_items_is r.ready new long))
    (subst (λ ls. Takes r.ready.items new (IsOfferedByChange c.args.table.now ls)) c.as_slice.ensures.value
    (subst (λ xs. Takes xs new (IsOfferedByChange c.args.table.now c.as_slice.result.now)) c.as_mut_slice.ensures.value c.offer_all_changes.ensures))

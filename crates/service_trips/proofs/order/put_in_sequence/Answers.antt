use Rattle.std.proofs.Common.{rules}
use Rattle.std.proofs.lemmas.List.Sorted.{IsNonDecreasingBy-from_sort, answers_always}
use Rattle.service_trips.specs.declared.stop_time.StopTime.{StopTime}
use Rattle.service_trips.proofs.Sorted.{sequence_from_pairs, sequence_from_sort}
use Rattle.service_trips.proofs.order.put_in_sequence.Goals as goal

pub returns-then-not-ascends : goal.returns-then-not-ascends
returns-then-not-ascends c =
    sequence_from_sort c.args.rows.now.items c.sort_unstable_by_key.new.self.items c.requires c.sort_unstable_by_key.ensures.permutation
    (IsNonDecreasingBy-from_sort (λ r. StopTime.sequence r) _ (c.sort_unstable_by_key.ensures.sorted (λ r. StopTime.sequence r) (answers_always _ _ _ (λ f a r g h. search rules))))

pub returns-else-not-ascends : goal.returns-else-not-ascends
returns-else-not-ascends c = sequence_from_pairs c.args.rows.now.items (rw c.deref.ensures.value at (c.ascends.ensures.0 c.if-not-ascends.false))

use Rattle.journey_read.proofs.CallLists.{HaveFirst}
use Rattle.journey_read.proofs.calls.all_calls.Given as goal

abbrev pub invariant-loop-t : goal.invariant-loop-t
invariant-loop-t l = HaveFirst l.table.trips l.t l.calls.items

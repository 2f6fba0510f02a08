use Rattle.late_edit.proofs.Finds.{FindsFrom}
use Rattle.late_edit.proofs.first_trips.FirstTrips.of.Given as goal

abbrev pub invariant-loop-t : goal.invariant-loop-t
invariant-loop-t l = FindsFrom l.first l.names l.table.trips l.t

use Rattle.std.proofs.Common.{◌≤◌, length}
use Rattle.journey_read.proofs.indexed_timetable.names_of.Given as goal

abbrev pub invariant-loop-t : goal.invariant-loop-t
invariant-loop-t l = length l.names ≤ l.t

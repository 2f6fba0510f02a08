use Rattle.journey_read.specs.Calls.{AreCalls, time_by}
use Rattle.journey_read.proofs.calls.calls_at.Given as goal

abbrev pub invariant-loop-at : goal.invariant-loop-at
invariant-loop-at l = AreCalls (time_by l.which) l.events l.at l.calls.items

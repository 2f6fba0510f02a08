use Rattle.journey_read.proofs.RideSteps.{IsLookedForFrom}
use Rattle.journey_read.proofs.rides.Ends.ride.Given as goal

abbrev pub invariant-loop-t : goal.invariant-loop-t
invariant-loop-t l = IsLookedForFrom l.name l.day l.self l.table.trips l.t-items l.t-index

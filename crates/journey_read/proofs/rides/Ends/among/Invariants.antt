use Rattle.journey_read.proofs.RideSteps.{IsLookedFor}
use Rattle.journey_read.proofs.rides.Ends.among.Given as goal

abbrev pub invariant-loop-at : goal.invariant-loop-at
invariant-loop-at l = IsLookedFor l.self l.events l.begin l.at

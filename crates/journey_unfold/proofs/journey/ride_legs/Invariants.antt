use Rattle.journey_unfold.proofs.Chains.{IsUnder, height}
use Rattle.journey_unfold.proofs.journey.ride_legs.Given as goal

abbrev pub invariant-loop-segment : goal.invariant-loop-segment
invariant-loop-segment l = IsUnder l.table l.desk l.query l.fn.entry l.fn.at l.segment l.legs.items

abbrev pub decreases-loop-segment : goal.decreases-loop-segment
decreases-loop-segment l = height l.segment.parent

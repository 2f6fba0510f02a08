use Rattle.journey_read.proofs.Adding.{AreTaken}
use Rattle.journey_read.proofs.verdict.value_of.Given as goal

abbrev pub invariant-loop-leg : goal.invariant-loop-leg
invariant-loop-leg l = AreTaken l.table l.query.leave l.legs l.leg-index l.value.arrive l.value.rides

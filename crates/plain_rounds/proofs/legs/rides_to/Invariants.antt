use Rattle.plain_rounds.proofs.TraceLemmas.{IsTraced, height}
use Rattle.plain_rounds.proofs.legs.rides_to.Given as goal

abbrev pub invariant-loop-at : goal.invariant-loop-at
invariant-loop-at l = IsTraced l.ridden l.fn.last l.rides.items l.at

abbrev pub decreases-loop-at : goal.decreases-loop-at
decreases-loop-at l = height l.at

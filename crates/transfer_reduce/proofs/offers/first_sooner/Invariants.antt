use Rattle.transfer_reduce.specs.Reached.{AreReached}
use Rattle.transfer_reduce.proofs.offers.first_sooner.Given as goal

abbrev pub invariant-loop-at : goal.invariant-loop-at
invariant-loop-at g l = AreReached l.table l.fn.labels.times l.trip l.from l.at

use Rattle.reach_all.proofs.BestTimes.{IsTimeOfFirst}
use Rattle.reach_all.proofs.sweeping.time_of.Given as goal

abbrev pub invariant-loop-value : goal.invariant-loop-value
invariant-loop-value l = IsTimeOfFirst l.values l.fn.leave l.value-index l.time

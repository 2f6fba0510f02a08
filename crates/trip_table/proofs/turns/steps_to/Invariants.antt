use Rattle.std.proofs.Common.{◌<◌, ◌+◌, ◌-◌}
use Rattle.trip_table.proofs.WalkSteps.{AreSteps}
use Rattle.trip_table.proofs.turns.steps_to.Given as goal

abbrev pub invariant-loop-reach : goal.invariant-loop-reach
invariant-loop-reach l = record {
  some : 0 < l.reach;
  within : l.reach < l.last + l.last + 2;
  so_far : AreSteps l.bases l.last l.reach l.far.items l.steps.items;
}

abbrev pub decreases-loop-reach : goal.decreases-loop-reach
decreases-loop-reach l = l.last - l.reach

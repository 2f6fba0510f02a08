use Rattle.std.proofs.Common.{◌≡◌, ◌≤◌, ◌⊎◌}
use Rattle.transfer_reduce.specs.Reached.{AreLowered}
use Rattle.transfer_reduce.proofs.offers.lower_all.Given as goal

abbrev pub invariant-loop-at : goal.invariant-loop-at
invariant-loop-at g l = record {
  labels : l.labels.table ≡ l.table;
  until : (l.at ≤ l.to) ⊎ (l.at ≡ l.from);
  times : AreLowered l.table l.trip l.from l.at l.initial.labels.times l.labels.times;
}

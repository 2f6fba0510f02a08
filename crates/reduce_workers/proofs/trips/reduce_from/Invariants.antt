use Rattle.std.proofs.Common.{◌≡◌, ◌-◌}
use Rattle.reduce_workers.specs.Reductions.{reduced_from}
use Rattle.reduce_workers.proofs.trips.reduce_from.Given as goal

abbrev pub invariant-loop-t : goal.invariant-loop-t
invariant-loop-t l = record {
  labels : l.labels.table ≡ l.table;
  reduced : l.reduced ≡ reduced_from l.table l.lines.lines l.first (l.t - l.first);
}

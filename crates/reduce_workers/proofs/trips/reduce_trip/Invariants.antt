use Rattle.std.proofs.Common.{◌≡◌, ◌≤◌, [], length}
use Rattle.tb_base.specs.TimetableData.{events_of}
use Rattle.transfer_reduce.specs.Tried.{AreTried}
use Rattle.reduce_workers.specs.Events.{IsDoneTo}
use Rattle.reduce_workers.proofs.trips.reduce_trip.Given as goal

abbrev pub invariant-loop-at : goal.invariant-loop-at
invariant-loop-at l = record {
  labels : l.labels.table ≡ l.table;
  tried : AreTried l.table l.labels.times l.tried;
  inside : l.at ≤ length (events_of l.table l.trip);
  found : l.found.items ≡ [];
  done : IsDoneTo l.table l.lines.lines l.trip l.at l.done.rows.items l.done.generated l.done.after_uturn l.labels.times;
}

abbrev pub decreases-loop-at : goal.decreases-loop-at
decreases-loop-at l = l.at

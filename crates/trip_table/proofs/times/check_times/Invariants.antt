use Rattle.std.proofs.Common.{◌≡◌, length, take, drop}
use Rattle.std.specs.Prelude.{All}
use Rattle.gtfs_rows.specs.Faults.{check_rows, unless_wrong, wrong_after}
use Rattle.trip_table.specs.References.{wrong_time}
use Rattle.trip_table.proofs.NextInOrder.{IsBelow}
use Rattle.trip_table.proofs.times.check_times.Given as goal

abbrev pub invariant-loop-row : goal.invariant-loop-row
invariant-loop-row l = record {
  trips : length l.least.items ≡ length l.trips;
  below : All (IsBelow l.least.items) (take l.row-index l.rows);
  right : check_rows (wrong_time l.stops l.trips) l.rows ≡ unless_wrong (wrong_after (wrong_time l.stops l.trips l.rows) (take l.row-index l.rows) (drop l.row-index l.rows)) l.rows;
}

use Rattle.std.proofs.Common.{◌≡◌, map, take, drop}
use Rattle.gtfs_rows.specs.Faults.{unless_wrong, wrong_after}
use Rattle.footpaths.specs.Stops.{stop_id, wrong_stop, check_stops}
use Rattle.footpaths.proofs.stop_table.checked_ids.Given as goal

abbrev pub invariant-loop-row : goal.invariant-loop-row
invariant-loop-row l = record {
  ids : l.ids ≡ map stop_id (take l.row-index l.rows);
  right : check_stops l.rows ≡ unless_wrong (wrong_after (wrong_stop l.rows) (take l.row-index l.rows) (drop l.row-index l.rows)) l.rows;
}

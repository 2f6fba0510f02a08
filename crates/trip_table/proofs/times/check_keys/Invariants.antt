use Rattle.std.proofs.Common.{◌≡◌, map, take, drop}
use Rattle.std.specs.List.{list_any}
use Rattle.gtfs_rows.specs.Faults.{check_rows, unless_wrong, wrong_after}
use Rattle.trip_table.specs.References.{wrong_time, key_of, same_key}
use Rattle.trip_table.specs.declared.seen.SequenceKey.{SequenceKey}
use Rattle.trip_table.proofs.times.check_keys.Given as goal

abbrev pub invariant-loop-row : goal.invariant-loop-row
invariant-loop-row l = record {
  keys : (k : SequenceKey) → list_any (same_key k) l.seen ≡ list_any (same_key k) (map key_of (take l.row-index l.rows));
  right : check_rows (wrong_time l.stops l.trips) l.rows ≡ unless_wrong (wrong_after (wrong_time l.stops l.trips l.rows) (take l.row-index l.rows) (drop l.row-index l.rows)) l.rows;
}

use Rattle.std.proofs.Common.{◌≡◌, map, drop}
use Rattle.gtfs_rows.specs.Faults.{unless_wrong}
use Rattle.trip_table.specs.References.{unknown_trip, check_named}
use Rattle.trip_table.proofs.frequencies.name_fault.Given as goal

abbrev pub invariant-loop-row : goal.invariant-loop-row
invariant-loop-row l = check_named l.fn.trips l.rows ≡ unless_wrong (map (unknown_trip l.fn.trips) (drop l.row-index l.rows)) l.rows

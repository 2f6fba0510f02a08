use Rattle.std.proofs.Common.{◌≡◌, map, take, drop}
use Rattle.gtfs_rows.specs.Faults.{check_rows, unless_wrong, wrong_after}
use Rattle.trip_table.specs.References.{wrong_twice}
use Rattle.trip_table.proofs.distinct.distinct_ids.Given as goal

abbrev pub invariant-loop-row : goal.invariant-loop-row
invariant-loop-row g l = record {
  ids : l.ids ≡ map g.R.Identified.id (take l.row-index l.rows);
  right : check_rows (λ _. wrong_twice g.R.Identified.id g.R.Identified.duplicate) l.rows
      ≡ unless_wrong (wrong_after (wrong_twice g.R.Identified.id g.R.Identified.duplicate) (take l.row-index l.rows) (drop l.row-index l.rows)) l.rows;
}

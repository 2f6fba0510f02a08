use Rattle.std.proofs.Common.{◌≡◌, drop}
use Rattle.gtfs_rows.specs.RawRows.{is_empty_record}
use Rattle.gtfs_rows.proofs.cursor.is_empty_record.Given as goal

abbrev pub invariant-loop-i : goal.invariant-loop-i
invariant-loop-i l = is_empty_record l.records.current ≡ is_empty_record (drop l.i l.records.current)

use Rattle.std.proofs.Common.{◌≡◌, length, ◌+◌, ◌<◌, ◌^◌}
use Rattle.gtfs_rows.specs.RawRows.{raw_rows_from}
use Rattle.gtfs_rows.proofs.cursor.RowCursor.advance.Given as goal

abbrev pub invariant-loop-self : goal.invariant-loop-self
invariant-loop-self l = record {
  fits : l.self-inside.row + length l.self-inside.records.left < 2 ^ 32;
  same : l.fn.self.left ≡ raw_rows_from l.self-inside.positions.items (l.self-inside.row + 1) l.self-inside.records.left;
}

abbrev pub decreases-loop-self : goal.decreases-loop-self
decreases-loop-self l = length l.self-inside.records.left

use Rattle.std.proofs.Common.{◌≡◌, map, take}
use Rattle.gtfs_rows.specs.RawRows.{cut, positions}
use Rattle.gtfs_rows.proofs.cursor.positions_of.Given as goal

abbrev pub invariant-loop-name : goal.invariant-loop-name
invariant-loop-name l = l.positions.items ≡ positions (map (λ name. name.now) (take l.name-index l.names)) (map cut l.head.current)

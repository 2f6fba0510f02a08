use Rattle.std.proofs.Common.{◌≡◌, ℕ, ◌<◌, get_or, [], false, map}
use Rattle.std.specs.Prelude.{bytes_eq}
use Rattle.gtfs_rows.specs.RawRows.{cut}
use Rattle.gtfs_rows.proofs.cursor.position_of.Given as goal

abbrev pub invariant-loop-i : goal.invariant-loop-i
invariant-loop-i l = (k : ℕ) → k < l.i → bytes_eq l.name (get_or (map cut l.head.current) k []) ≡ false

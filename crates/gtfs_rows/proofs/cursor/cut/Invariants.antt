use Rattle.std.proofs.Common.{◌≡◌, length, reverse}
use Rattle.gtfs_rows.specs.RawRows.{cut, cut_start}
use Rattle.gtfs_rows.proofs.cursor.cut.Given as goal

abbrev pub invariant-loop-rest : goal.invariant-loop-rest
invariant-loop-rest l = cut l.text ≡ reverse (cut_start (reverse l.rest))

abbrev pub decreases-loop-rest : goal.decreases-loop-rest
decreases-loop-rest l = length l.rest

use Rattle.std.proofs.Common.{◌≡◌, length}
use Rattle.gtfs_rows.specs.RawRows.{cut_start}
use Rattle.gtfs_rows.proofs.cursor.cut_start.Given as goal

abbrev pub invariant-loop-rest : goal.invariant-loop-rest
invariant-loop-rest l = cut_start l.text ≡ cut_start l.rest

abbrev pub decreases-loop-rest : goal.decreases-loop-rest
decreases-loop-rest l = length l.rest

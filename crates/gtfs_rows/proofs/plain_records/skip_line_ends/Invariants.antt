use Rattle.std.proofs.Common.{◌≡◌, length}
use Rattle.gtfs_rows.specs.PlainText.{skip_line_ends}
use Rattle.gtfs_rows.proofs.plain_records.skip_line_ends.Given as goal

abbrev pub invariant-loop-rest : goal.invariant-loop-rest
invariant-loop-rest l = skip_line_ends l.text ≡ skip_line_ends l.rest

abbrev pub decreases-loop-rest : goal.decreases-loop-rest
decreases-loop-rest l = length l.rest

use Rattle.std.proofs.Common.{◌≡◌, replicate, []}
use Rattle.line_split.proofs.nested.Nested.with_rows.Given as goal

abbrev pub invariant-loop-row : goal.invariant-loop-row
invariant-loop-row g l = l.rows ≡ replicate l._row []

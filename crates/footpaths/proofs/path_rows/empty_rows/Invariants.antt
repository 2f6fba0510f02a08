use Rattle.std.proofs.Common.{◌≡◌, map, replicate, []}
use Rattle.footpaths.proofs.path_rows.empty_rows.Given as goal

abbrev pub invariant-loop-row : goal.invariant-loop-row
invariant-loop-row l = map (λ row. row.items) l.rows.items ≡ replicate l._row []

use Rattle.std.proofs.Common.{◌≡◌, ◌<◌, ℕ, [], length, map, get_or, false}
use Rattle.late_edit.proofs.near.doubtful_stops.Given as goal

abbrev pub invariant-loop-row : goal.invariant-loop-row
invariant-loop-row l = record {
  long : length l.marks.items ≡ l.row-index;
  plain : (q : ℕ) → q < l.row-index → get_or l.marks.items q false ≡ false → get_or (map (λ row. row.items) l.doubts) q [] ≡ [];
}

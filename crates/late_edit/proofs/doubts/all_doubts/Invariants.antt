use Rattle.std.proofs.Common.{◌≡◌, ◌<◌, ℕ, [], length, map, get_or}
use Rattle.late_edit.specs.Doubts.{AreDoubtsAt}
use Rattle.late_edit.proofs.doubts.all_doubts.Given as goal

abbrev pub invariant-loop-number : goal.invariant-loop-number
invariant-loop-number l = record {
  long : length (map (λ row. row.items) l.rows.items) ≡ l.number;
  at : (q : ℕ) → q < l.number → AreDoubtsAt l.compared.before l.compared.after q (get_or (map (λ row. row.items) l.rows.items) q []);
}

use Rattle.std.proofs.Common.{◌≡◌, ℕ, ◌/◌, ◌%◌}
use Rattle.std.specs.Int.{bit_at}
use Rattle.line_split.specs.Bitmaps.{IsOutBy}
use Rattle.line_split.proofs.bitmaps.out_in.Given as goal

abbrev pub invariant-loop-n : goal.invariant-loop-n
invariant-loop-n l = (k : ℕ) → k / 64 ≡ l.word → bit_at l.out (k % 64) ≡ 1 → IsOutBy l.bitmaps l.picked k

use Rattle.std.proofs.Common.{◌≡◌, ◌*◌, ◌≤◌, ◌<◌, ℕ, None, Some, length, min, get_or}
use Rattle.reduce_workers.specs.Reductions.{piece_reduced, reduced_from}
use Rattle.reduce_workers.proofs.places.join_pieces.Given as goal

abbrev pub invariant-loop-n : goal.invariant-loop-n
invariant-loop-n l = record {
  long : length l.slots.items ≡ length l.fn.slots.items;
  all : l.all ≡ reduced_from l.table l.lines.lines 0 (min (64 * l.n) (length l.table.trips));
  left : (m : ℕ) → l.n ≤ m → m < length l.slots.items → get_or l.slots.items m None ≡ Some (piece_reduced l.table l.lines.lines m);
}

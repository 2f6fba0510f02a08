use Rattle.std.proofs.Common.{◌≡◌, ℕ, ◌<◌, [], length, slice_index_or}
use Rattle.line_split.specs.Layout.{AreBoardings}
use Rattle.line_split.specs.LinesOf.{berths_at}
use Rattle.line_split.proofs.boardings.boardings_of.Given as goal

abbrev pub invariant-loop-stop : goal.invariant-loop-stop
invariant-loop-stop l = record {
  long : length l.boardings ≡ l.stop;
  rows : (q : ℕ) → q < l.stop → AreBoardings l.table l.lines (berths_at l.table l.lines q) (slice_index_or l.boardings q []);
}

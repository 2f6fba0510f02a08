use Rattle.std.proofs.Common.{◌≡◌, ℕ, ◌<◌, [], length, slice_index_or}
use Rattle.line_split.specs.LinesOf.{StandsAt}
use Rattle.line_split.proofs.places.places_of.Given as goal

abbrev pub invariant-loop-line : goal.invariant-loop-line
invariant-loop-line l = record {
  long : length l.places.items ≡ l.count;
  noted : (i k : ℕ) → i < l.line → k < length (slice_index_or l.lines i []) →
      StandsAt l.lines (slice_index_or (slice_index_or l.lines i []) k 0) (slice_index_or l.places.items (slice_index_or (slice_index_or l.lines i []) k 0) (0, 0));
}

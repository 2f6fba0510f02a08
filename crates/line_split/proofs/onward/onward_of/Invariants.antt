use Rattle.std.proofs.Common.{◌≡◌, ◌<◌, ℕ, length, slice_index_or}
use Rattle.line_split.specs.Layout.{IsRunFrom}
use Rattle.line_split.proofs.onward.onward_of.Given as goal

abbrev pub invariant-loop-place : goal.invariant-loop-place
invariant-loop-place l = record {
  long : length l.runs.items ≡ l.place-index;
  runs : (t : ℕ) → t < l.place-index → IsRunFrom l.lines l.in_order.items t (slice_index_or l.runs.items t (0, 0));
}

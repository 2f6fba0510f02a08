use Rattle.std.proofs.Common.{◌≡◌, ◌<◌, ◌||◌, ℕ, [], length, false}
use Rattle.std.specs.Prelude.{slice_index_or}
use Rattle.std.specs.List.{list_any}
use Rattle.late_edit.proofs.near.near_stops.Given as goal

abbrev pub invariant-loop-number : goal.invariant-loop-number
invariant-loop-number l = record {
  long : length l.near.items ≡ l.number;
  near : (p : ℕ) → p < l.number → slice_index_or l.near.items p false
      ≡ (slice_index_or l.marks.items p false
      || list_any (λ f. slice_index_or l.marks.items f.to false) (slice_index_or l.table.footpaths.paths p []));
}

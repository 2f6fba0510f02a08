use Rattle.std.proofs.Common.{◌≡◌, ◌<◌, ℕ, [], length, false}
use Rattle.std.specs.Prelude.{slice_index_or}
use Rattle.line_split.specs.LinesOf.{line_events}
use Rattle.late_edit.specs.Doubts.{calls_near}
use Rattle.late_edit.proofs.near.near_lines.Given as goal

abbrev pub invariant-loop-number : goal.invariant-loop-number
invariant-loop-number l = record {
  long : length l.near.items ≡ l.number;
  told : (n : ℕ) → n < l.number → slice_index_or l.near.items n false
      ≡ calls_near l.marks (line_events l.lined.table (slice_index_or l.lined.lines n []));
}

use Rattle.std.proofs.Common.{◌≡◌, ℕ, ◌<◌, [], length, slice_index_or}
use Rattle.line_split.proofs.CallLemmas.{berths_before}
use Rattle.line_split.proofs.berths.berths_of.Given as goal

abbrev pub invariant-loop-line : goal.invariant-loop-line
invariant-loop-line l = record {
  long : length l.berths ≡ length l.table.stops;
  calls : (q : ℕ) → q < length l.table.stops → slice_index_or l.berths q [] ≡ berths_before l.table l.lines q l.line;
}

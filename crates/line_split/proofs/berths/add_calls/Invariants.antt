use Rattle.std.proofs.Common.{◌≡◌, ℕ, ◌<◌, ◌++◌, [], length, slice_index_or}
use Rattle.line_split.specs.Calls.{calls_of}
use Rattle.line_split.proofs.berths.add_calls.Given as goal

abbrev pub invariant-loop-at : goal.invariant-loop-at
invariant-loop-at l = record {
  long : length l.berths ≡ length l.initial.berths;
  calls : (q : ℕ) → q < length l.initial.berths → slice_index_or l.berths q [] ≡ slice_index_or l.initial.berths q [] ++ calls_of l.line l.events q l.at;
}

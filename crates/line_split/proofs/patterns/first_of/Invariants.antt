use Rattle.std.proofs.Common.{◌≡◌, length}
use Rattle.line_split.proofs.patterns.first_of.Given as goal

abbrev pub invariant-loop-trip : goal.invariant-loop-trip
invariant-loop-trip l = length l.first.items ≡ length l.buckets

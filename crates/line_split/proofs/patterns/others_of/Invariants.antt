use Rattle.std.proofs.Common.{length}
use Rattle.std.specs.Prelude.{◌≤◌}
use Rattle.line_split.proofs.patterns.others_of.Given as goal

abbrev pub invariant-loop-trip : goal.invariant-loop-trip
invariant-loop-trip l = length l.others.items ≤ l.trip

use Rattle.std.proofs.Common.{◌≡◌, drop}
use Rattle.std.specs.Ordering.{nat_cmp}
use Rattle.std.specs.Cmp.Lexicographic.{slice_cmp}
use Rattle.line_split.specs.Patterns.{pattern_of}
use Rattle.line_split.proofs.events.compare_patterns.Given as goal

abbrev pub invariant-loop-i : goal.invariant-loop-i
invariant-loop-i l = slice_cmp nat_cmp (pattern_of l.first) (pattern_of l.second) ≡ slice_cmp nat_cmp (pattern_of (drop l.i l.first)) (pattern_of (drop l.i l.second))

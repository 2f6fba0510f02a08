use Rattle.std.proofs.Common.{◌≡◌, drop}
use Rattle.std.specs.Ordering.{int_cmp}
use Rattle.std.specs.Cmp.Lexicographic.{slice_cmp}
use Rattle.tb_base.specs.Lines.{times_of}
use Rattle.line_split.proofs.events.compare_times.Given as goal

abbrev pub invariant-loop-i : goal.invariant-loop-i
invariant-loop-i l = slice_cmp int_cmp (times_of l.first) (times_of l.second) ≡ slice_cmp int_cmp (times_of (drop l.i l.first)) (times_of (drop l.i l.second))

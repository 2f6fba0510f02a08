use Rattle.line_split.specs.Buckets.{NonePasses, may_join_line}
use Rattle.line_split.proofs.place.first_of_word.Given as goal

abbrev pub invariant-loop-place : goal.invariant-loop-place
invariant-loop-place l = NonePasses (may_join_line l.table l.lines l.fn.trip) l.among l.from l.place

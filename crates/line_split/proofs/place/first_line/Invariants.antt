use Rattle.std.proofs.Common.{◌≡◌, ◌-◌, ◌%◌, length}
use Rattle.line_split.specs.Buckets.{NonePasses, may_join_line}
use Rattle.line_split.proofs.place.first_line.Given as goal

abbrev pub invariant-loop-place : goal.invariant-loop-place
invariant-loop-place l = record {
  whole : l.place % 64 ≡ 0;
  none : NonePasses (may_join_line l.table l.lines l.fn.trip) l.among 0 l.place;
}

abbrev pub decreases-loop-place : goal.decreases-loop-place
decreases-loop-place l = length l.among - l.place

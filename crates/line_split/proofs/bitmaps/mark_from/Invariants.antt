use Rattle.std.proofs.Common.{◌-◌, ◌≤◌, length}
use Rattle.line_split.specs.Bitmaps.{AreMarked}
use Rattle.line_split.proofs.bitmaps.mark_from.Given as goal

abbrev pub invariant-loop-at : goal.invariant-loop-at
invariant-loop-at l = record {
  marked : AreMarked l.place l.events l.fn.bitmaps l.bitmaps;
  inside : l.at ≤ length l.bitmaps;
}

abbrev pub decreases-loop-at : goal.decreases-loop-at
decreases-loop-at l = l.at - l.first

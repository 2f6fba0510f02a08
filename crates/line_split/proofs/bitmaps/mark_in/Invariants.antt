use Rattle.line_split.specs.Bitmaps.{AreMarked}
use Rattle.line_split.proofs.bitmaps.mark_in.Given as goal

abbrev pub invariant-loop-time : goal.invariant-loop-time
invariant-loop-time l = AreMarked l.place l.events l.fn.bitmaps l.bitmaps

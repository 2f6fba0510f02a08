use Rattle.line_split.specs.Bitmaps.{AreOutIn, IsOutBy}
use Rattle.line_split.proofs.bitmaps.are_out.Given as goal

abbrev pub invariant-loop-n : goal.invariant-loop-n
invariant-loop-n l = AreOutIn (IsOutBy l.bitmaps l.picked) l.word l.out

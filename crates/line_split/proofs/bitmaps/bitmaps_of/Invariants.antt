use Rattle.line_split.specs.Bitmaps.{AreBitmapsOf}
use Rattle.line_split.proofs.bitmaps.bitmaps_of.Given as goal

abbrev pub invariant-loop-place : goal.invariant-loop-place
invariant-loop-place l = AreBitmapsOf l.table l.lines l.among l.bitmaps.items

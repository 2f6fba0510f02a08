use Rattle.std.proofs.Common.{◌≡◌, replicate}
use Rattle.line_split.proofs.bitmaps.zeros.Given as goal

abbrev pub invariant-loop-word : goal.invariant-loop-word
invariant-loop-word l = l.words.items ≡ replicate l._word 0

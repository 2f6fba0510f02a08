use Rattle.std.specs.Prelude.{All}
use Rattle.line_split.specs.Bitmaps.{IsUnset}
use Rattle.line_split.proofs.bitmaps.add_unset.Given as goal

abbrev pub invariant-loop-limit : goal.invariant-loop-limit
invariant-loop-limit l = All IsUnset l.bitmaps.items

use Rattle.std.specs.Prelude.{All}
use Rattle.line_split.specs.Bitmaps.{IsUnset}
use Rattle.line_split.proofs.bitmaps.unset_for.Given as goal

abbrev pub invariant-loop-event : goal.invariant-loop-event
invariant-loop-event l = All IsUnset l.bitmaps.items

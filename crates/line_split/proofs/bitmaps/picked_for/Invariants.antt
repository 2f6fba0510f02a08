use Rattle.std.specs.Prelude.{All}
use Rattle.line_split.specs.Bitmaps.{IsPicked}
use Rattle.line_split.proofs.bitmaps.picked_for.Given as goal

abbrev pub invariant-loop-time : goal.invariant-loop-time
invariant-loop-time l = All (IsPicked l.bitmaps l.events) l.picked.items

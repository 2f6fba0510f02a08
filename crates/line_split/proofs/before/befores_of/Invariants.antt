use Rattle.std.proofs.Common.{◌≡◌, map, take}
use Rattle.line_split.specs.LinesOf.{trip_before}
use Rattle.line_split.proofs.before.befores_of.Given as goal

abbrev pub invariant-loop-place : goal.invariant-loop-place
invariant-loop-place l = l.before.items ≡ map (trip_before l.lines) (take l.place-index l.places)

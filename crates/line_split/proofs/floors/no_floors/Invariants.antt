use Rattle.std.proofs.Common.{◌≡◌, replicate}
use Rattle.line_split.specs.Floors.{no_floor}
use Rattle.line_split.proofs.floors.no_floors.Given as goal

abbrev pub invariant-loop-bucket : goal.invariant-loop-bucket
invariant-loop-bucket l = l.floors.items ≡ replicate l._bucket no_floor

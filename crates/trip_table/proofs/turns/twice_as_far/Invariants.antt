use Rattle.std.proofs.Common.{◌≡◌, map, take, get_or}
use Rattle.trip_table.proofs.turns.twice_as_far.Given as goal

abbrev pub invariant-loop-place : goal.invariant-loop-place
invariant-loop-place l = l.farther.items ≡ map (λ place. get_or l.far place 0) (take l.place-index l.far)

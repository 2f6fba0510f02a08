use Rattle.std.proofs.Common.{◌≡◌, map, take}
use Rattle.trip_table.specs.Turns.{turn_of}
use Rattle.trip_table.proofs.turns.turns_of.Given as goal

abbrev pub invariant-loop-i : goal.invariant-loop-i
invariant-loop-i l = l.turns.items ≡ map (turn_of l.rows) (take l.i l.rows)

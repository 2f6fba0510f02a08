use Rattle.std.proofs.Common.{◌≡◌, map, take}
use Rattle.arrive_by.specs.Latest.{departure_from}
use Rattle.arrive_by.proofs.turned.departures.Given as goal

abbrev pub invariant-loop-choice : goal.invariant-loop-choice
invariant-loop-choice l = l.departures.items ≡ map (departure_from l.mirrored.table) (take l.choice-index l.choices)

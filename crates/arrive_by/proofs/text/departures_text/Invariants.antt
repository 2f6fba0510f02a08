use Rattle.std.proofs.Common.{◌≡◌, ◌++◌, take, flat_map}
use Rattle.arrive_by.specs.Text.{departure_text}
use Rattle.arrive_by.proofs.text.departures_text.Given as goal

abbrev pub invariant-loop-departure : goal.invariant-loop-departure
invariant-loop-departure l = l.text ≡ l.initial.text ++ flat_map (departure_text l.table) (take l.departure-index l.list)

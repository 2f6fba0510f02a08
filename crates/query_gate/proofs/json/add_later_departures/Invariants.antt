use Rattle.std.proofs.Common.{◌≡◌, ◌++◌, take}
use Rattle.answer_json.specs.Frames.{followers}
use Rattle.query_gate.specs.Json.{departure_value}
use Rattle.query_gate.proofs.json.add_later_departures.Given as goal

abbrev pub invariant-loop-departure : goal.invariant-loop-departure
invariant-loop-departure l = l.text ≡ l.fn.text ++ followers l.frame (departure_value l.table) (take l.departure-index l.departures)

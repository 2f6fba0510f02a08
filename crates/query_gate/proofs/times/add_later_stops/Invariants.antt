use Rattle.std.proofs.Common.{◌≡◌, ◌++◌, ◌<◌, drop}
use Rattle.tb_base.specs.Transfers.{numbers_below}
use Rattle.answer_json.specs.Frames.{followers}
use Rattle.query_gate.specs.Json.{stop_json}
use Rattle.query_gate.proofs.times.add_later_stops.Given as goal

abbrev pub invariant-loop-stop : goal.invariant-loop-stop
invariant-loop-stop l = (0 < l.stop) × (l.text ≡ l.fn.text ++ followers l.frame (stop_json l.table l.departures l.figures) (drop 1 (numbers_below l.stop)))

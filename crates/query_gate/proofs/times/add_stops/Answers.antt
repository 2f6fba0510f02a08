use Rattle.std.proofs.Common.{arith, length}
use Rattle.query_gate.specs.Json.{stop_json}
use Rattle.answer_json.proofs.Framed.{framed_below}
use Rattle.query_gate.proofs.times.add_stops.Goals as goal

pub returns : goal.returns
returns c =
    let T = c.args.table.now in
    framed_below c.add-3.result c.args.frame (stop_json T c.args.departures c.args.figures.now) (length T.stops) c.args.text.now c.add-2.new.self c.add_stop.new.text c.add_later_stops.new.text c.add-3.new.self
    c.opening.result.now c.closing.result.now (omega (arith, c.stop_count.ensures, c.if-stop_count-eq0.false)) c.opening.ensures c.closing.ensures
    c.in_ok-add.ensures.added c.in_ok-add_stop.ensures c.in_ok-add_later_stops.ensures c.add-3.ensures.added

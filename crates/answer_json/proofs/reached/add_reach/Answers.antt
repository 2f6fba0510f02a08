use Rattle.std.proofs.Common.{◌-◌, arith, codes, length, map}
use Rattle.answer_json.specs.Reached.{from_name, stop_json, to_next_name}
use Rattle.answer_json.proofs.Framed.{framed_ahead}
use Rattle.answer_json.proofs.Names.{begun, up_to_next}
use Rattle.answer_json.proofs.reached.add_reach.Goals as goal

pub returns : goal.returns
returns c =
    let T = c.args.table.now in
    let lists = map (λ list. list.items) c.args.lists.now in
    let last = c.stop_count-count.result - 1 in
    framed_ahead c.add-4.result c.args.frame (codes "[\"") (stop_json T lists) (from_name T lists) (to_next_name c.args.frame T lists) last (length T.stops)
    c.args.text.now c.add-2.new.self c.add-3.new.self c.add_earlier_stops.new.text c.add_from_name.new.text c.add-4.new.self
    c.opening.result.now c.closing.result.now (begun T lists) (up_to_next c.args.frame T lists) (omega (arith, c.stop_count-count.ensures, c.if-count-eq0.false)) c.opening.ensures c.closing.ensures
    c.in_ok-add.ensures.added c.in_ok-add-2.ensures.added c.in_ok-add_earlier_stops.ensures c.in_ok-add_from_name.ensures c.add-4.ensures.added

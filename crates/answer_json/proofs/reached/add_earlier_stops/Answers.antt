use Rattle.std.proofs.Common.{flat_map, map}
use Rattle.tb_base.specs.Transfers.{numbers_below}
use Rattle.answer_text.proofs.Joined.{joined}
use Rattle.answer_json.specs.Reached.{to_next_name}
use Rattle.answer_json.proofs.Numbers.{numbers_more}
use Rattle.answer_json.proofs.reached.add_earlier_stops.Goals as goal

pub loop-stop-preserved : goal.loop-stop-preserved
loop-stop-preserved c =
    let stop = c.loop-stop.stop in
    let shown = to_next_name c.args.frame c.args.table.now (map (λ list. list.items) c.args.lists.now) in
    rw (numbers_more shown stop) (joined c.args.text.now c.loop-stop.text c.add_to_next_name.new.text (flat_map shown (numbers_below stop)) (shown stop) c.loop-stop.invariant c.in_ok-add_to_next_name.ensures)

use Rattle.std.proofs.Common.{◌≡◌, ◌++◌, flat_map, map}
use Rattle.tb_base.specs.Transfers.{numbers_below}
use Rattle.answer_json.specs.Reached.{to_next_name}
use Rattle.answer_json.proofs.reached.add_earlier_stops.Given as goal

abbrev pub invariant-loop-stop : goal.invariant-loop-stop
invariant-loop-stop l = l.text ≡ l.fn.text ++ flat_map (to_next_name l.frame l.table (map (λ list. list.items) l.lists)) (numbers_below l.stop)

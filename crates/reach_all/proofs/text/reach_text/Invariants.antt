use Rattle.std.proofs.Common.{◌≡◌, flat_map, map}
use Rattle.tb_base.specs.Transfers.{numbers_below}
use Rattle.reach_all.specs.Text.{stop_line}
use Rattle.reach_all.proofs.text.reach_text.Given as goal

abbrev pub invariant-loop-stop : goal.invariant-loop-stop
invariant-loop-stop l = l.text ≡ flat_map (stop_line l.table (map (λ list. list.items) l.lists)) (numbers_below l.stop)

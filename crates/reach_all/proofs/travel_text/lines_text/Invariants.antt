use Rattle.std.proofs.Common.{◌≡◌, flat_map}
use Rattle.tb_base.specs.Transfers.{numbers_below}
use Rattle.reach_all.specs.TimesText.{times_line}
use Rattle.reach_all.proofs.travel_text.lines_text.Given as goal

abbrev pub invariant-loop-stop : goal.invariant-loop-stop
invariant-loop-stop l = l.text ≡ flat_map (times_line l.table l.departures l.figures) (numbers_below l.stop)

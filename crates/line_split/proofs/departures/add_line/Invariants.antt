use Rattle.std.proofs.Common.{◌≡◌, ◌++◌, flat_map}
use Rattle.tb_base.specs.Transfers.{numbers_below}
use Rattle.line_split.specs.Layout.{departures_at}
use Rattle.line_split.proofs.departures.add_line.Given as goal

abbrev pub invariant-loop-at : goal.invariant-loop-at
invariant-loop-at l = l.departures.items ≡ l.initial.departures.items ++ flat_map (departures_at l.table l.trips) (numbers_below l.at)

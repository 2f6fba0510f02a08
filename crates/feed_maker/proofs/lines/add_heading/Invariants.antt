use Rattle.std.proofs.Common.{◌≡◌, ◌++◌}
use Rattle.std.specs.Prelude.{flat_map}
use Rattle.tb_base.specs.Transfers.{numbers_below}
use Rattle.feed_maker.specs.City.{trips_along}
use Rattle.feed_maker.proofs.lines.add_heading.Given as goal

abbrev pub invariant-loop-lane : goal.invariant-loop-lane
invariant-loop-lane l = l.trips.items ≡ l.fn.trips.items ++ flat_map (trips_along l.side l.heading) (numbers_below l.lane)

use Rattle.std.proofs.Common.{◌≡◌, map}
use Rattle.tb_base.specs.Transfers.{numbers_below}
use Rattle.feed_maker.specs.City.{city_stop}
use Rattle.feed_maker.proofs.grid.stops.Given as goal

abbrev pub invariant-loop-number : goal.invariant-loop-number
invariant-loop-number l = l.stops.items ≡ map (city_stop l.side) (numbers_below l.number)

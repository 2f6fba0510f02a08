use Rattle.std.proofs.Common.{◌≡◌, ◌++◌, map}
use Rattle.tb_base.specs.Transfers.{numbers_below}
use Rattle.feed_maker.specs.City.{city_trip}
use Rattle.feed_maker.proofs.lines.Line.add_trips.Given as goal

abbrev pub invariant-loop-trip : goal.invariant-loop-trip
invariant-loop-trip l = l.trips.items ≡ l.fn.trips.items ++ map (city_trip l.self.side l.self.heading l.self.lane) (numbers_below l.trip)

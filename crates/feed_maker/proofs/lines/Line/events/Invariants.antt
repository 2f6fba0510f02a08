use Rattle.std.proofs.Common.{◌≡◌, map}
use Rattle.tb_base.specs.Transfers.{numbers_below}
use Rattle.feed_maker.specs.City.{city_event}
use Rattle.feed_maker.proofs.lines.Line.events.Given as goal

abbrev pub invariant-loop-event : goal.invariant-loop-event
invariant-loop-event l = l.events.items ≡ map (city_event l.self.side l.self.heading l.self.lane l.trip) (numbers_below l.event)

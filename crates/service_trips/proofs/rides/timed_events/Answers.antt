use Rattle.service_trips.proofs.TimedEvents.{timed_next}
use Rattle.service_trips.proofs.rides.timed_events.Goals as goal

pub loop-row-preserved : goal.loop-row-preserved
loop-row-preserved c =
    timed_next c.args.rows.now c.loop-row.row-index c.row-item.result c.in-Some.times c.loop-row.events.items c.push.new.self.items _ c.loop-row-test.true c.row-item.is c.in-Some.ensures c.event_of.ensures c.in_ok-push.ensures.items
    c.loop-row.invariant

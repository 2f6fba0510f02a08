use Rattle.journey_read.specs.Calls.{time_by}
use Rattle.journey_read.proofs.CallLists.{one_event_more}
use Rattle.journey_read.proofs.calls.calls_at.Goals as goal

pub loop-at-preserved : goal.loop-at-preserved
loop-at-preserved c =
    one_event_more (time_by c.args.which) c.args.events.now c.loop-at.at c.loop-at.calls.items _ c.call_at.result c.index-events-at.result c.loop-at-test.true c.index-events-at.is
    c.call_at.ensures.stop c.call_at.ensures.time c.call_at.ensures.at c.loop-at.invariant c.in_ok-push.ensures.items

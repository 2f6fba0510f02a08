use Rattle.line_split.proofs.TimedTrips.{has_event}
use Rattle.line_split.proofs.order.timed_of.Goals as goal

pub event-event-requires-clause-at : goal.event-event-requires-clause-at
event-event-requires-clause-at c = has_event c.args.table.now c.args.trip c.soundness.ensures c.requires

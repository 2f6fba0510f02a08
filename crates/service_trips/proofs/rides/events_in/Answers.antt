use Rattle.service_trips.proofs.Timed.{before_within, after_within}
use Rattle.service_trips.proofs.rides.events_in.Goals as goal

pub times_at-times-requires-clause-before : goal.times_at-times-requires-clause-before
times_at-times-requires-clause-before c = before_within c.args.rows.now c.loop-k.k c.loop-k.before c.requires.times c.loop-k.invariant.before

pub times_at-times-requires-clause-after : goal.times_at-times-requires-clause-after
times_at-times-requires-clause-after c = after_within c.args.rows.now c.loop-k.k c.nearest_after-after.result c.requires.times c.nearest_after-after.ensures

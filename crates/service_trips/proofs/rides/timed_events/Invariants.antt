use Rattle.std.proofs.Common.{◌≡◌, ◌++◌, drop, map}
use Rattle.service_trips.specs.Times.{times_of_row}
use Rattle.service_trips.specs.Rides.{events_in, events_from}
use Rattle.service_trips.proofs.rides.timed_events.Given as goal

abbrev pub invariant-loop-row : goal.invariant-loop-row
invariant-loop-row l = events_in l.rows ≡ l.events.items ++ events_from (map times_of_row l.rows) l.row-index (drop l.row-index l.rows)

use Rattle.std.proofs.Common.{◌≡◌, map, take}
use Rattle.service_trips.specs.ServiceDay.{moved}
use Rattle.service_trips.proofs.moved_rides.moved_ride.Given as goal

abbrev pub invariant-loop-event : goal.invariant-loop-event
invariant-loop-event l = l.events.items ≡ map (moved l.secs) (take l.event-index l.ride)

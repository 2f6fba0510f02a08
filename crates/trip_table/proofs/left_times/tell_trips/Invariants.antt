use Rattle.std.proofs.Common.{◌≡◌, ◌++◌, map}
use Rattle.service_trips.specs.declared.broken.TripFault.{TripFault}
use Rattle.trip_table.proofs.left_times.tell_trips.Given as goal

abbrev pub invariant-loop-broken : goal.invariant-loop-broken
invariant-loop-broken l = l.fn.told.items ++ map (λ t. TripFault.fault t) l.fn.found.items ≡ l.told.items ++ map (λ t. TripFault.fault t) l.broken-iterator.rest.items

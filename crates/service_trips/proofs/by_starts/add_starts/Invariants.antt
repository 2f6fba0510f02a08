use Rattle.std.proofs.Common.{◌≡◌, ◌+◌, ◌*◌, ◌++◌, map}
use Rattle.std.specs.List.{range_with_len}
use Rattle.service_trips.specs.ServiceDay.{trip_starting_at}
use Rattle.service_trips.specs.TimetableTrips.{reckoned}
use Rattle.service_trips.proofs.by_starts.add_starts.Given as goal

abbrev pub invariant-loop-k : goal.invariant-loop-k
invariant-loop-k l =
    l.trips.items ≡ l.initial.trips.items ++ map (λ k. reckoned l.day (trip_starting_at l.id l.ride (l.starts.first + k * l.frequency.headway))) (range_with_len 0 l.k)

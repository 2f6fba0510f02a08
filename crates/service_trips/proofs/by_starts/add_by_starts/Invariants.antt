use Rattle.std.proofs.Common.{◌≡◌, ◌++◌, map, take}
use Rattle.service_trips.specs.Starts.{frequency_at}
use Rattle.service_trips.proofs.ByStarts.{trips_of_rows}
use Rattle.service_trips.proofs.by_starts.add_by_starts.Given as goal

abbrev pub invariant-loop-place : goal.invariant-loop-place
invariant-loop-place l =
    l.trips.items ≡ l.initial.trips.items ++ trips_of_rows l.day l.id l.ride (map (frequency_at l.table.rows) (take l.place-index l.places))

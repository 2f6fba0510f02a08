use Rattle.std.proofs.Common.{List, map}
use Rattle.std.specs.List.{flat_map, range_with_len}
use Rattle.gtfs_rows.specs.TripsFile.{TripData}
use Rattle.service_trips.specs.ServiceDay.{trips_at}
use Rattle.service_trips.specs.TimetableTrips.{shown}
use Rattle.service_trips.specs.Sizes.{IsSize}
use Rattle.service_trips.proofs.size.service_size.Given as goal

abbrev pub invariant-loop-trip : goal.invariant-loop-trip
invariant-loop-trip l =
    (rows : List TripData) → IsSize
    (shown l.day (flat_map (trips_at (record { rows = rows; rides = map (λ ride. ride.items) l.rides; frequencies = l.table.rows }) l.runs) (range_with_len 0 l.trip)))
    l.size

use Rattle.std.proofs.Common.{◌≡◌, List, length, map, take}
use Rattle.gtfs_rows.specs.TripsFile.{TripData}
use Rattle.service_trips.specs.TimetableTrips.{timetable_trips}
use Rattle.service_trips.specs.Sizes.{IsSize}
use Rattle.service_trips.proofs.timetable.days_size.Given as goal

abbrev pub invariant-loop-day : goal.invariant-loop-day
invariant-loop-day l =
    (rows : List TripData) → length rows ≡ length l.rides → IsSize
    (timetable_trips (record { rows = rows; rides = map (λ ride. ride.items) l.rides; frequencies = l.table.rows }) (take l.day-index l.days))
    l.size

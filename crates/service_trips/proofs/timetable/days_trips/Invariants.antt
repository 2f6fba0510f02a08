use Rattle.std.proofs.Common.{◌≡◌, map, take}
use Rattle.service_trips.specs.TimetableTrips.{timetable_trips}
use Rattle.service_trips.proofs.timetable.days_trips.Given as goal

abbrev pub invariant-loop-day : goal.invariant-loop-day
invariant-loop-day l = l.trips.items ≡ timetable_trips (record { rows = l.rows; rides = map (λ ride. ride.items) l.rides; frequencies = l.table.rows }) (take l.day-index l.days)

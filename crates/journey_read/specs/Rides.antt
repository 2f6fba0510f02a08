-- Which ride a trip's name, its day, two stops and two times stand for.
use Rattle.std.specs.Prelude.{◌≡◌, ℕ, ◌+◌, ◌==◌, ◌&&◌, Bool, List, [], ◌∷◌, bytes_eq, slice_get, Option, Some, None, if◌then◌else◌}
use Rattle.std.specs.Option.{option_and_then, option_map, option_or}
use Rattle.std.specs.Ordering.{int_eq}
use Rattle.tb_base.specs.declared.days.ServiceDay.{ServiceDay}
use Rattle.tb_base.specs.declared.query.Leg.{Leg}
use Rattle.tb_base.specs.declared.query.Leg.TheVariants.{Ride as RideLeg}
use Rattle.tb_base.specs.declared.table.Event.{Event}
use Rattle.tb_base.specs.ServiceDays.{same_day}
use Rattle.tb_base.specs.TimetableData.{TripData}
use Rattle.journey_read.specs.declared.rides.Ends.{Ends}

-- the event is at the stop where the ride begins, with its departure
abbrev pub departs : Ends → Event → Bool
departs ends e = (e.stop == ends.from) && int_eq e.dep ends.departure

-- it is at the stop where the ride ends, with its arrival
abbrev pub arrives : Ends → Event → Bool
arrives ends e = (e.stop == ends.to) && int_eq e.arr ends.arrival

-- the first of these events at which the ride can end; the first of them has index i
abbrev pub end_among : Ends → ℕ → List Event → Option ℕ
end_among ends i [] = None
end_among ends i (e ∷ events) = if arrives ends e then Some i else end_among ends (i + 1) events

-- The indexes where the ride begins and ends: of the pairs of events in order that one with the
-- least first index, and of those the one with the least second index.
abbrev pub ends_among : Ends → ℕ → List Event → Option (ℕ × ℕ)
ends_among ends i [] = None
ends_among ends i (e ∷ events) =
    option_or
    (if departs ends e then option_map (λ j. (i, j)) (end_among ends (i + 1) events) else None)
    (ends_among ends (i + 1) events)

-- the ride on a trip, if the trip has the name and the service day, and has two such events
abbrev pub ride_on : List ℕ → ServiceDay → Ends → ℕ → TripData → Option Leg
ride_on name day ends t trip =
    if bytes_eq name trip.name && same_day day trip.day
    then option_map (λ at. RideLeg t at.0 at.1) (ends_among ends 0 trip.events)
    else None

-- the ride on the lowest-numbered of these trips that has one; the first of them has number t
abbrev pub ride_among : List ℕ → ServiceDay → Ends → ℕ → List TripData → Option Leg
ride_among name day ends t [] = None
ride_among name day ends t (trip ∷ trips) =
    option_or (ride_on name day ends t trip) (ride_among name day ends (t + 1) trips)

-- the ride on the first of the trips with these numbers that has one
abbrev pub ride_in : List ℕ → ServiceDay → Ends → List TripData → List ℕ → Option Leg
ride_in name day ends trips [] = None
ride_in name day ends trips (t ∷ numbers) =
    option_or (option_and_then (ride_on name day ends t) (slice_get trips t))
    (ride_in name day ends trips numbers)

-- on the trips with these numbers are the rides that are on all trips with a name
abbrev pub HaveRides : List ℕ → List TripData → List ℕ → Type 0
HaveRides name trips numbers =
    (day : ServiceDay) (ends : Ends) →
    ride_in name day ends trips numbers ≡ ride_among name day ends 0 trips

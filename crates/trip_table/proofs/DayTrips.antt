-- The rows of trips.txt and the events of each.
use Rattle.std.proofs.Common.{◌≡◌, ◌∙◌, sym, ap, refl, subst, ℕ, List, [], ◌∷◌, length, map, replicate, Bool, Option, None, Some, Result, Ok}
use Rattle.std.proofs.lemmas.List.FromFn.{length-map-range_with_len}
use Rattle.tb_base.specs.declared.table.Event.{Event}
use Rattle.tb_base.specs.TimetableData.{TripData}
use Rattle.gtfs_rows.specs.Faults.{unless_wrong}
use Rattle.gtfs_rows.specs.Refused.{AreRowsRefused, Yields}
use Rattle.gtfs_rows.specs.Steps.{and_then}
use Rattle.gtfs_rows.specs.TripsFile as row
use Rattle.gtfs_rows.specs.declared.fault.FeedFault.{FeedFault}
use Rattle.gtfs_rows.specs.declared.fault.RowsFault.{RowsFault}
use Rattle.service_trips.specs.declared.frequency.TripFrequency.{TripFrequency}
use Rattle.service_trips.specs.declared.stop_time.StopTime.{StopTime}
use Rattle.service_trips.specs.Limits.{checked_trips}
use Rattle.service_trips.specs.Rides.{checked_rides, ride_on, rides_on}
use Rattle.service_trips.specs.TimeFaults.{wrong_trips}
use Rattle.service_trips.specs.TimetableTrips.{DayRunsData}
use Rattle.tb_base.specs.declared.days.ServiceDay.{ServiceDay}
use Rattle.tb_base.specs.declared.days.ServiceDay.TheVariants.{Date}
use Rattle.tb_base.specs.declared.days.Horizon.{Horizon}
use Rattle.tb_base.specs.ServiceDays.{other_days, service_days}
use Rattle.service_day.specs.NearDays.{date_of_day}
use Rattle.trip_table.specs.References.{Rows}
use Rattle.trip_table.specs.Day.{runs_on, runs_if, runs_of, rides_of_rows, trips_on}

-- a value that passes a check is the one that was checked
pub unless_wrong-value : {A : Type 0} (wrong : List (Option FeedFault)) (x y : A) → unless_wrong wrong x ≡ Ok y → x ≡ y
unless_wrong-value [] x y e = cc
unless_wrong-value (None ∷ wrong) x y e = unless_wrong-value wrong x y e
unless_wrong-value (Some f ∷ wrong) x y e = absurd (cc)

-- there is a list of events for each trip
pub as_many : (rows : List StopTime) (runs : List Bool) (rides : List (List Event)) → checked_rides rows runs ≡ Ok rides → length rides ≡ length runs
as_many rows runs rides e = sym (ap length (unless_wrong-value (wrong_trips rows 0 (length runs)) (rides_on rows runs (length runs)) rides e)) ∙ length-map-range_with_len (ride_on rows runs) 0 (length runs)

pub map_same : {X Y : Type 0} (f g : X → Y) (xs : List X) → ((x : X) → f x ≡ g x) → map f xs ≡ map g xs
map_same f g [] same = refl
map_same f g (x ∷ xs) same = let head = same x in let tail = map_same f g xs same in cc

-- one answer for each of so many
pub replicate_is : {X Y : Type 0} (y : Y) (xs : List X) → replicate (length xs) y ≡ map (λ x. y) xs
replicate_is y [] = refl
replicate_is y (x ∷ xs) = ap (λ ys. y ∷ ys) (replicate_is y xs)

-- which rows run on a service day, by its date
pub runs_given : (rows : Rows) (date : ℕ) (day : ServiceDay) (runs : List Bool) → runs ≡ runs_if rows (date_of_day day date) → record { day = day; runs = runs } ≡ runs_of rows date day
unfolding runs_of
runs_given rows date day runs is = ap (λ (r : List Bool). record { day = day; runs = r }) is

-- the date itself is the first of its service days
pub date_first : (rows : Rows) (date : ℕ) (horizon : Horizon) (runs : List Bool) (others : List DayRunsData) → runs ≡ runs_on rows date → others ≡ map (runs_of rows date) (other_days horizon)
    → (record { day = Date; runs = runs } ∷ others) ≡ map (runs_of rows date) (service_days horizon)
unfolding runs_of
date_first rows date horizon runs others r o = λ i. record { day = Date; runs = r i } ∷ o i

-- trips of these rows, events and service days are those that are meant
pub trips_meant : {X : Type 0} (view : X → List TripData) (rows : Rows) (frequencies : List TripFrequency) (date : ℕ) (horizon : Horizon) (trips : List row.TripData) (rides : List (List Event)) (days : List DayRunsData) (result : Result X RowsFault)
    → trips ≡ rows.trips → rides_of_rows rows ≡ Ok rides → days ≡ map (runs_of rows date) (service_days horizon)
    → Yields AreRowsRefused result view (checked_trips (record { rows = trips; rides = rides; frequencies = frequencies }) days) → Yields AreRowsRefused result view (trips_on rows frequencies date horizon)
trips_meant view rows frequencies date horizon trips rides days result t r d meant =
    let meant_is : checked_trips (record { rows = trips; rides = rides; frequencies = frequencies }) days ≡ trips_on rows frequencies date horizon =
    (λ i. checked_trips (record { rows = t i; rides = rides; frequencies = frequencies }) (d i))
    ∙ sym (ap (λ (m : Result (List (List Event)) FeedFault). and_then m (λ rides. checked_trips (record { rows = rows.trips; rides = rides; frequencies = frequencies }) (map (runs_of rows date) (service_days horizon)))) r) in
    subst (λ (m : Result (List TripData) FeedFault). Yields AreRowsRefused result view m) meant_is meant

-- The events that the stop times of each trip give.
use Rattle.std.specs.Prelude.{ℕ, ◌+◌, ◌<◌, ◌≤◌, ◌&&◌, List, [], ◌∷◌, length, map, slice_index_or, nat_le, Bool, false, Option, Result, if◌then◌else◌, All, AllPairs, pos, ◌≤ℤ◌}
use Rattle.std.specs.List.{range_with_len}
use Rattle.tb_base.specs.declared.table.Event.{Event}
use Rattle.tb_base.specs.Soundness.{IsSoundEvent}
use Rattle.gtfs_rows.specs.declared.fault.FeedFault.{FeedFault}
use Rattle.service_trips.specs.declared.stop_time.StopTime.{StopTime}
use Rattle.service_trips.specs.declared.times.Times.{Times}
use Rattle.gtfs_rows.specs.Faults.{unless_wrong}
use Rattle.service_trips.specs.StopTimes.{stop_times}
use Rattle.service_trips.specs.TimeFaults.{wrong_trips}
use Rattle.service_trips.specs.Times.{times_of_row, times_at}

-- the event that a row gives
abbrev pub event_of : StopTime → Times → Event
event_of r t =
    record { stop = r.stop; arr = t.arr; dep = t.dep; board = r.board; alight = r.alight }

-- the events of rows, of which the first stands at a place
abbrev pub events_from : List (Option Times) → ℕ → List StopTime → List Event
events_from times k [] = []
events_from times k (r ∷ rest) = event_of r (times_at times k) ∷ events_from times (k + 1) rest

-- the events of a trip whose rows stand in order
abbrev pub events_in : List StopTime → List Event
events_in ordered = events_from (map times_of_row ordered) 0 ordered

-- the events of a trip that runs and has at least two stop times; no other trip has any
abbrev pub ride_in : Bool → List StopTime → List Event
ride_in runs ordered = if runs && nat_le 2 (length ordered) then events_in ordered else []

-- the events of a trip of the feed
abbrev pub ride_on : List StopTime → List Bool → ℕ → List Event
ride_on rows runs trip = ride_in (slice_index_or runs trip false) (stop_times rows trip)

-- the events of each of the first so many trips
abbrev pub rides_on : List StopTime → List Bool → ℕ → List (List Event)
rides_on rows runs count = map (ride_on rows runs) (range_with_len 0 count)

-- the events of each trip, or the first thing that is wrong with one, whether it runs or not
abbrev pub checked_rides : List StopTime → List Bool → Result (List (List Event)) FeedFault
checked_rides rows runs =
    unless_wrong (wrong_trips rows 0 (length runs)) (rides_on rows runs (length runs))

-- the events of a sound trip among so many stops, none of them before the day
pub record AreSoundEvents (stops : ℕ) (ride : List Event) : Type 0 where
  pub long : 2 ≤ length ride
  pub events : All (IsSoundEvent stops) ride
  pub onward : AllPairs (λ e f. e.dep ≤ℤ f.arr) ride
  pub since : All (λ e. pos 0 ≤ℤ Event.arr e) ride

-- the events, where there are any, are sound
abbrev pub IsSoundRide : ℕ → List Event → Type 0
IsSoundRide stops ride = 0 < length ride → AreSoundEvents stops ride

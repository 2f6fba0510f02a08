-- The trips of a timetable: of each of its service days those that it shows.
use Rattle.std.specs.Prelude.{◌-◌, List, length, map, filter, flat_map, slice_index_or, Bool, true, ℤ, pos, int_lt, not}
use Rattle.tb_base.specs.declared.days.ServiceDay.{ServiceDay}
use Rattle.tb_base.specs.declared.days.ServiceDay.TheVariants as day
use Rattle.tb_base.specs.declared.table.Event.{Event}
use Rattle.tb_base.specs.ServiceDays.{seconds_after}
use Rattle.tb_base.specs.TimetableData.{TripData, no_event}
use Rattle.service_trips.specs.ServiceDay.{FeedTrips, moved, service_trips}

-- a service day, and whether the service of each row of trips.txt runs on it
pub record DayRunsData : Type 0 where
  pub day : ServiceDay
  pub runs : List Bool

-- the last arrival of events, and the last departure
abbrev pub last_arrival : List Event → ℤ
last_arrival events = Event.arr (slice_index_or events (length events - 1) no_event)

abbrev pub last_departure : List Event → ℤ
last_departure events = Event.dep (slice_index_or events (length events - 1) no_event)

-- Whether a timetable shows a trip of a service day, by its events in the reckoning of that day: of
-- the date each; of the day before those that are still under way when it has passed, with a last
-- arrival of at least 24:00:00; of a later day those whose last time is at most 99:59:59 in the
-- reckoning of the date.
abbrev pub is_shown : ServiceDay → List Event → Bool
is_shown day.Before events = not (int_lt (last_arrival events) (pos 86400))
is_shown day.Date events = true
is_shown day.After events = not (int_lt (pos 273599) (last_departure events))
is_shown day.SecondAfter events = not (int_lt (pos 187199) (last_departure events))

-- a trip of a service day in the reckoning of the date: its times gain 24 hours for each day after it
abbrev pub reckoned : ServiceDay → TripData → TripData
reckoned d t = record { name = t.name; day = d; events = map (moved (seconds_after d)) t.events }

-- what a timetable shows of the trips of a service day
abbrev pub shown : ServiceDay → List TripData → List TripData
shown d trips = map (reckoned d) (filter (λ t. is_shown d (TripData.events t)) trips)

-- The trips of a timetable, by its service days in order, and by which rows of trips.txt run on each
-- of them.
abbrev pub timetable_trips : FeedTrips → List DayRunsData → List TripData
timetable_trips feed days =
    flat_map (λ d. shown (DayRunsData.day d) (service_trips feed (DayRunsData.runs d))) days

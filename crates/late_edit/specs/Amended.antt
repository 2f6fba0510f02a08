-- A timetable amended by what is said of its trips.
use Rattle.std.specs.Prelude.{ℕ, ◌-◌, ◌&&◌, ◌||◌, not, List, [], ◌∷◌, ◌++◌, length, map, take, drop, set, nat_lt, position, bytes_eq, slice_index_or, Bool, false, Option, Result, Ok, Err, ℤ, pos, negsuc, ◌+ℤ◌, int_lt, if◌then◌else◌}
use Rattle.std.specs.List.{list_any}
use Rattle.std.specs.Option.{ok_or}
use Rattle.gtfs_rows.specs.Steps.{and_then}
use Rattle.tb_base.specs.declared.days.ServiceDay.{ServiceDay}
use Rattle.tb_base.specs.declared.table.Event.{Event}
use Rattle.tb_base.specs.ServiceDays.{same_day}
use Rattle.tb_base.specs.TimetableData.{TimetableData, TripData, no_event, no_trip}
use Rattle.late_edit.specs.declared.late.LateFault.{LateFault}
use Rattle.late_edit.specs.declared.late.LateFault.TheVariants as fault
use Rattle.late_edit.specs.declared.update.Update.{Update}
use Rattle.late_edit.specs.declared.update.Update.TheVariants as update
use Rattle.late_edit.specs.Updates.{day_of, line_of, trip_of}
use Rattle.late_edit.specs.UpdateData.{LateData, SkipData}

-- a trip has this service day and name
abbrev pub is_named : ServiceDay → List ℕ → TripData → Bool
is_named day name t = same_day day t.day && bytes_eq name t.name

-- the trip that is named: the lowest-numbered one of its name and day
abbrev pub trip_named : List TripData → Update → Option ℕ
trip_named trips u = position (is_named (day_of u) (trip_of u)) trips

-- an event with its times moved by so many seconds
abbrev pub delayed : ℤ → Event → Event
delayed secs e = record {
  stop = e.stop;
  arr = e.arr +ℤ secs;
  dep = e.dep +ℤ secs;
  board = e.board;
  alight = e.alight;
}

-- events of which one and all behind it are moved
abbrev pub moved_from : ℕ → ℤ → List Event → List Event
moved_from from secs events = take from events ++ map (delayed secs) (drop from events)

-- more than a day, late or early
abbrev pub is_over_a_day : ℤ → Bool
is_over_a_day secs = int_lt secs (negsuc 86399) || int_lt (pos 86400) secs

-- a time outside the limits of a timetable
abbrev pub is_outside : ℤ → Bool
is_outside time = int_lt time (negsuc 86399) || int_lt (pos 359999) time

-- an event has such a time
abbrev pub has_time_outside : Event → Bool
has_time_outside e = is_outside e.arr || is_outside e.dep

-- an event is reached before the one before it is left
abbrev pub is_reached_early : List Event → ℕ → Bool
is_reached_early events i =
    nat_lt 0 i && int_lt (Event.arr (slice_index_or events i no_event))
    (Event.dep (slice_index_or events (i - 1) no_event))

-- the events of the trip, moved as a late says, or the late's first fault
abbrev pub events_moved : LateData → List Event → Result (List Event) LateFault
events_moved late events =
    if not (nat_lt late.from (length events)) then Err (fault.BadEvent late.line)
    else if is_over_a_day late.secs then Err (fault.OutOfRange late.line)
    else if list_any has_time_outside (map (delayed late.secs) (drop late.from events))
    then Err (fault.OutOfRange late.line)
    else if is_reached_early (moved_from late.from late.secs events) late.from
    then Err (fault.TimeRunsBack late.line)
    else Ok (moved_from late.from late.secs events)

-- an event at which nobody boards or alights
abbrev pub closed : Event → Event
closed e = record { stop = e.stop; arr = e.arr; dep = e.dep; board = false; alight = false }

-- the events of the trip, of which the one that is skipped is closed, or the fault that there is
-- none
abbrev pub events_skipped : SkipData → List Event → Result (List Event) LateFault
events_skipped skip events =
    if nat_lt skip.at (length events)
    then Ok (set events skip.at (closed (slice_index_or events skip.at no_event)))
    else Err (fault.BadEvent skip.line)

-- the events of the trip by what is said of it, or the first fault of that
abbrev pub events_after : Update → List Event → Result (List Event) LateFault
events_after (update.Late late) events = events_moved late events
events_after (update.Cancel cancel) events = Ok (map closed events)
events_after (update.Skip skip) events = events_skipped skip events

-- a trip with other events
abbrev pub with_events : TripData → List Event → TripData
with_events t events = record { name = t.name; day = t.day; events = events }

-- the trips, of which one has the events by what is said of it, or the first fault of that
abbrev pub trips_updated : Update → List TripData → ℕ → Result (List TripData) LateFault
trips_updated u trips t =
    and_then (events_after u (TripData.events (slice_index_or trips t no_trip)))
    (λ events. Ok (set trips t (with_events (slice_index_or trips t no_trip) events)))

-- the trips after what is said of one, or the first fault of that
abbrev pub trips_after : Update → List TripData → Result (List TripData) LateFault
trips_after u trips =
    and_then (ok_or (trip_named trips u) (fault.UnknownTrip (line_of u)))
    (λ t. trips_updated u trips t)

-- the trips after all that is said in order, each on what those before it left, or the first fault
abbrev pub amended_trips : List Update → List TripData → Result (List TripData) LateFault
amended_trips [] trips = Ok trips
amended_trips (u ∷ updates) trips =
    and_then (trips_after u trips) (λ after. amended_trips updates after)

-- a timetable with other trips
abbrev pub with_trips : TimetableData → List TripData → TimetableData
with_trips T trips = record {
  stops = T.stops;
  stations = T.stations;
  trips = trips;
  footpaths = T.footpaths;
}

-- the timetable amended by what is said of its trips, or the first fault of that
abbrev pub amended : TimetableData → List Update → Result TimetableData LateFault
amended T updates =
    and_then (amended_trips updates T.trips) (λ trips. Ok (with_trips T trips))

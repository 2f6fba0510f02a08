-- The trips of a service day, in its own reckoning.
use Rattle.std.specs.Prelude.{ℕ, ◌++◌, List, [], ◌∷◌, length, map, filter, codes, slice_index_or, Bool, true, false, ℤ, pos, ◌+ℤ◌, ◌-ℤ◌}
use Rattle.std.specs.List.{flat_map, range_with_len}
use Rattle.tb_base.specs.declared.days.ServiceDay.TheVariants as day
use Rattle.tb_base.specs.declared.table.Event.{Event}
use Rattle.tb_base.specs.TimetableData.{TripData, no_event}
use Rattle.gtfs_rows.specs.TripsFile as row
use Rattle.tb_base.specs.Clock.{time_text}
use Rattle.service_trips.specs.declared.frequency.TripFrequency.{TripFrequency}
use Rattle.service_trips.specs.Starts.{names_trip, starts}

-- what a feed says of its trips: the rows of trips.txt, the events of each, none for a trip of
-- fewer than two stop times, and the rows of frequencies.txt
pub record FeedTrips : Type 0 where
  pub rows : List row.TripData
  pub rides : List (List Event)
  pub frequencies : List TripFrequency

-- the id of the trip with a number, and its events
abbrev pub id_of : FeedTrips → ℕ → List ℕ
id_of feed trip =
    row.TripData.id
    (slice_index_or feed.rows trip (record { row = 0; service = []; id = [] }))

abbrev pub ride_of_trip : FeedTrips → ℕ → List Event
ride_of_trip feed trip = slice_index_or feed.rides trip []

-- an event with its times moved by so many seconds
abbrev pub moved : ℤ → Event → Event
moved secs e =
    record {
      stop = e.stop;
      arr = e.arr +ℤ secs;
      dep = e.dep +ℤ secs;
      board = e.board;
      alight = e.alight;
    }

-- the first departure of events
abbrev pub first_departure : List Event → ℤ
first_departure events = Event.dep (slice_index_or events 0 no_event)

-- events with all times moved by a start minus the first departure
abbrev pub starting_at : List Event → ℕ → List Event
starting_at events start = map (moved (pos start -ℤ first_departure events)) events

-- the trip that starts at a time, named by its `trip_id`, `#`, and that time
abbrev pub trip_starting_at : List ℕ → List Event → ℕ → TripData
trip_starting_at id events start = record {
  name = id ++ codes "#" ++ time_text (pos start);
  day = day.Date;
  events = starting_at events start;
}

-- The trips of a row of trips.txt whose service runs: none without events; one where no row of
-- frequencies.txt names it; else one for each start of each of those rows.
abbrev pub trips_of : List ℕ → List TripFrequency → List Event → List TripData
trips_of id frequencies [] = []
trips_of id [] (e ∷ events) =
    record { name = id; day = day.Date; events = e ∷ events } ∷ []
trips_of id (f ∷ others) (e ∷ events) =
    map (trip_starting_at id (e ∷ events)) (flat_map starts (f ∷ others))

-- the same of a row whose service may run or not
abbrev pub trips_where : Bool → List ℕ → List TripFrequency → List Event → List TripData
trips_where false id frequencies events = []
trips_where true id frequencies events = trips_of id frequencies events

-- the trips of the row with a number, by whether each row's service runs
abbrev pub trips_at : FeedTrips → List Bool → ℕ → List TripData
trips_at feed runs trip =
    trips_where (slice_index_or runs trip false) (id_of feed trip)
    (filter (names_trip trip) feed.frequencies) (ride_of_trip feed trip)

-- The trips of a service day, in the order of trips.txt, by whether the service of each row runs on
-- it.
abbrev pub service_trips : FeedTrips → List Bool → List TripData
service_trips feed runs = flat_map (trips_at feed runs) (range_with_len 0 (length feed.rows))

-- The trips with whose times something is wrong.
use Rattle.std.specs.Prelude.{ℕ, List, [], ◌∷◌, flat_map, Option, Some, None}
use Rattle.std.specs.List.{range_with_len}
use Rattle.gtfs_rows.specs.declared.fault.FeedFault.{FeedFault}
use Rattle.service_trips.specs.declared.stop_time.StopTime.{StopTime}
use Rattle.service_trips.specs.declared.broken.TripFault.{TripFault}
use Rattle.service_trips.specs.Faults.{first_wrong}
use Rattle.service_trips.specs.StopTimes.{stop_times}
use Rattle.service_trips.specs.TimeFaults.{wrong_trip_times}

-- a trip with what is wrong with it, if anything is
abbrev pub broken_by : ℕ → Option FeedFault → List TripFault
broken_by trip None = []
broken_by trip (Some f) = record { trip = trip; fault = f } ∷ []

-- a trip with the first thing that is wrong with its times
abbrev pub broken_trip : List StopTime → ℕ → List TripFault
broken_trip rows trip = broken_by trip (first_wrong (wrong_trip_times (stop_times rows trip)))

-- the trips, of the first so many, with whose times something is wrong
abbrev pub broken_trips : List StopTime → ℕ → List TripFault
broken_trips rows count = flat_map (broken_trip rows) (range_with_len 0 count)

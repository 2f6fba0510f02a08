-- What may be wrong with the times of a trip.
use Rattle.std.specs.Prelude.{ℕ, List, [], ◌∷◌, ◌++◌, flat_map, Option, Some, None, is_none, Bool, false, ℤ, int_lt}
use Rattle.std.specs.List.{range_with_len}
use Rattle.gtfs_rows.specs.declared.fault.FeedFile.TheVariants as file
use Rattle.gtfs_rows.specs.declared.fault.FeedFault.{FeedFault}
use Rattle.gtfs_rows.specs.declared.fault.FeedFault.TheVariants as fault
use Rattle.service_trips.specs.declared.stop_time.StopTime.{StopTime}
use Rattle.service_trips.specs.declared.times.Times.{Times}
use Rattle.gtfs_rows.specs.Faults.{spot, fault_if}
use Rattle.service_trips.specs.StopTimes.{stop_times}
use Rattle.service_trips.specs.Times.{times_of_row}
use Rattle.gtfs_rows.specs.declared.columns.stop_times.TheConstants as stop_times

-- the first row, or the last, of a trip has no time
abbrev pub wrong_end : StopTime → Option FeedFault
wrong_end r = fault_if (is_none (times_of_row r))
    (fault.NoEndTime (spot file.StopTimes r.row stop_times.ARRIVAL_TIME))

-- a time is less than the departure of the timed row before it
abbrev pub is_before : ℤ → Option ℤ → Bool
is_before time None = false
is_before time (Some departed) = int_lt time departed

-- the times of a row, after the departure of the timed row before it
abbrev pub wrong_times : Option ℤ → StopTime → Option Times → List (Option FeedFault)
wrong_times departed r None = []
wrong_times departed r (Some t) =
    fault_if (is_before t.arr departed)
    (fault.TimeRunsBack (spot file.StopTimes r.row stop_times.ARRIVAL_TIME))
    ∷ fault_if (int_lt t.dep t.arr)
    (fault.TimeRunsBack (spot file.StopTimes r.row stop_times.DEPARTURE_TIME))
    ∷ []

-- the departure of the last timed row
abbrev pub departed_by : Option ℤ → Option Times → Option ℤ
departed_by departed None = departed
departed_by departed (Some t) = Some t.dep

-- where times run back, along rows after a departure
abbrev pub wrong_along : Option ℤ → List StopTime → List (Option FeedFault)
wrong_along departed [] = []
wrong_along departed (r ∷ rest) =
    wrong_times departed r (times_of_row r) ++ wrong_along (departed_by departed (times_of_row r)) rest

-- the last of rows, of which one comes first
abbrev pub last_row : StopTime → List StopTime → StopTime
last_row r [] = r
last_row r (s ∷ rest) = last_row s rest

-- what may be wrong with the rows of a trip, in order; a trip of fewer than two isn't looked at
abbrev pub wrong_trip_times : List StopTime → List (Option FeedFault)
wrong_trip_times [] = []
wrong_trip_times (r ∷ []) = []
wrong_trip_times (r ∷ s ∷ rest) =
    wrong_end r ∷ wrong_end (last_row s rest) ∷ wrong_along None (r ∷ s ∷ rest)

-- what may be wrong with so many trips, from a first one on, in order
abbrev pub wrong_trips : List StopTime → ℕ → ℕ → List (Option FeedFault)
wrong_trips rows first count =
    flat_map (λ trip. wrong_trip_times (stop_times rows trip)) (range_with_len first count)

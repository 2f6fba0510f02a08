-- The trips of a timetable, within the limits of a day.
use Rattle.std.specs.Prelude.{◌||◌, List, map, Bool, Option, Result, ℤ, pos, int_lt}
use Rattle.std.specs.List.{list_any}
use Rattle.tb_base.specs.declared.table.Event.{Event}
use Rattle.tb_base.specs.TimetableData.{TripData}
use Rattle.gtfs_rows.specs.Steps.{and_then}
use Rattle.gtfs_rows.specs.Faults.{spot, fault_if, unless_wrong}
use Rattle.gtfs_rows.specs.declared.fault.FeedFile.TheVariants as file
use Rattle.gtfs_rows.specs.declared.fault.FeedFault.{FeedFault}
use Rattle.gtfs_rows.specs.declared.fault.FeedFault.TheVariants as fault
use Rattle.service_trips.specs.declared.frequency.TripFrequency.{TripFrequency}
use Rattle.service_trips.specs.Starts.{starts}
use Rattle.service_trips.specs.ServiceDay.{FeedTrips, ride_of_trip, starting_at}
use Rattle.service_trips.specs.TimetableTrips.{DayRunsData, timetable_trips}
use Rattle.service_trips.specs.Sizes.{check_size}
use Rattle.gtfs_rows.specs.declared.columns.frequencies.TheConstants as frequencies

-- a time before the day, or after 99:59:59
abbrev pub is_beyond : ℤ → Bool
is_beyond time = int_lt time (pos 0) || int_lt (pos 359999) time

-- an event has such a time
abbrev pub has_beyond : Event → Bool
has_beyond e = is_beyond e.arr || is_beyond e.dep

-- some start of a row of frequencies.txt moves a time of its trip beyond the limits
abbrev pub moves_beyond : List Event → TripFrequency → Bool
moves_beyond ride f = list_any (λ start. list_any has_beyond (starting_at ride start)) (starts f)

-- the fault of such a row
abbrev pub wrong_frequency : FeedTrips → TripFrequency → Option FeedFault
wrong_frequency feed f =
    fault_if (moves_beyond (ride_of_trip feed f.trip_row) f)
    (fault.BeyondDay (spot file.Frequencies f.row frequencies.START_TIME))

-- the rows of frequencies.txt, or the first fault of one
abbrev pub check_frequencies : FeedTrips → Result (List TripFrequency) FeedFault
check_frequencies feed =
    unless_wrong (map (wrong_frequency feed) feed.frequencies) feed.frequencies

-- The trips of a timetable, or the first thing that is wrong: a row of frequencies.txt that moves a
-- time beyond the limits, whether its trip runs or not; then too many trips; then too many events.
unfoldable pub checked_trips : FeedTrips → List DayRunsData → Result (List TripData) FeedFault
checked_trips feed days =
    and_then (check_frequencies feed) (λ _.
    check_size (timetable_trips feed days))

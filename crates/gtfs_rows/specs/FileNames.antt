-- The files of a feed: their names, and which is which.
use Rattle.std.specs.Prelude.{ℕ, ◌==◌, List, codes, Bool}
use Rattle.gtfs_rows.specs.declared.fault.FeedFile.{FeedFile}
use Rattle.gtfs_rows.specs.declared.fault.FeedFile.TheVariants as file

abbrev pub file_name : FeedFile → List ℕ
file_name file.Stops = codes "stops.txt"
file_name file.Calendar = codes "calendar.txt"
file_name file.CalendarDates = codes "calendar_dates.txt"
file_name file.Trips = codes "trips.txt"
file_name file.StopTimes = codes "stop_times.txt"
file_name file.Transfers = codes "transfers.txt"
file_name file.Frequencies = codes "frequencies.txt"

-- the place of a file among those of a feed
abbrev pub file_place : FeedFile → ℕ
file_place file.Stops = 0
file_place file.Calendar = 1
file_place file.CalendarDates = 2
file_place file.Trips = 3
file_place file.StopTimes = 4
file_place file.Transfers = 5
file_place file.Frequencies = 6

abbrev pub is_file : FeedFile → FeedFile → Bool
is_file a b = file_place a == file_place b

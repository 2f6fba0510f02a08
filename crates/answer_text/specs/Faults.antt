-- Faults of a feed as texts: the number, the name and where it is.
use Rattle.std.specs.Prelude.{ℕ, ◌-◌, List, [], ◌++◌, codes, slice_index_or, zero, suc}
use Rattle.std.specs.Fmt.{decimal}
use Rattle.gtfs_rows.specs.Columns.{column_names}
use Rattle.gtfs_rows.specs.FileNames.{file_name}
use Rattle.gtfs_rows.specs.declared.fault.FeedFault.{FeedFault}
use Rattle.gtfs_rows.specs.declared.fault.FeedFault.TheVariants as fault
use Rattle.gtfs_rows.specs.declared.fault.Spot.{Spot}
use Rattle.gtfs_rows.specs.declared.fault.Many.{Many}
use Rattle.gtfs_rows.specs.declared.fault.Many.TheVariants as many

-- the name of a column, which is a number from 1
abbrev pub column_name : Spot → List ℕ
column_name spot = slice_index_or (column_names spot.file) (spot.column - 1) []

-- a place: file, row and column
abbrev pub spot_text : Spot → List ℕ
spot_text spot =
    file_name spot.file ++ codes " row " ++ decimal spot.row ++ codes " column " ++ column_name spot

-- a quantity that has a limit
abbrev pub many_text : Many → List ℕ
many_text many.Stops = codes "stops"
many_text many.Calendar = codes "calendar"
many_text many.CalendarDates = codes "calendar_dates"
many_text many.Trips = codes "trips"
many_text many.StopTimes = codes "stop_times"
many_text many.Transfers = codes "transfers"
many_text many.Frequencies = codes "frequencies"
many_text many.RunningTrips = codes "running_trips"
many_text many.Events = codes "events"
many_text many.Footpaths = codes "footpaths"

-- the row past the limit; a total has none, which is said by 0
abbrev pub row_text : ℕ → List ℕ
row_text zero = []
row_text (suc n) = codes " row " ++ decimal (suc n)

-- a fault: its number, its name and its details, with one space between two parts
abbrev pub fault_text : FeedFault → List ℕ
fault_text (fault.MissingFile file) = codes "1 MissingFile " ++ file_name file
fault_text (fault.FileTooLarge file) = codes "2 FileTooLarge " ++ file_name file
fault_text (fault.NotUtf8 file) = codes "3 NotUtf8 " ++ file_name file
fault_text (fault.MissingColumn spot) = codes "4 MissingColumn " ++ spot_text spot
fault_text (fault.BadNumber spot) = codes "5 BadNumber " ++ spot_text spot
fault_text (fault.BadTime spot) = codes "6 BadTime " ++ spot_text spot
fault_text (fault.BadDate spot) = codes "7 BadDate " ++ spot_text spot
fault_text (fault.BadCode spot) = codes "8 BadCode " ++ spot_text spot
fault_text (fault.EmptyId spot) = codes "9 EmptyId " ++ spot_text spot
fault_text (fault.DuplicateId spot) = codes "10 DuplicateId " ++ spot_text spot
fault_text (fault.UnknownStop spot) = codes "11 UnknownStop " ++ spot_text spot
fault_text (fault.UnknownTrip spot) = codes "12 UnknownTrip " ++ spot_text spot
fault_text (fault.DuplicateSequence spot) = codes "13 DuplicateSequence " ++ spot_text spot
fault_text (fault.NoEndTime spot) = codes "14 NoEndTime " ++ spot_text spot
fault_text (fault.TimeRunsBack spot) = codes "15 TimeRunsBack " ++ spot_text spot
fault_text (fault.NotAPlatform spot) = codes "16 NotAPlatform " ++ spot_text spot
fault_text (fault.DuplicateTransfer spot) = codes "17 DuplicateTransfer " ++ spot_text spot
fault_text (fault.OpenFootpaths p q r) =
    codes "18 OpenFootpaths " ++ p ++ codes " " ++ q ++ codes " " ++ r
fault_text (fault.LongFootpath p q r) =
    codes "19 LongFootpath " ++ p ++ codes " " ++ q ++ codes " " ++ r
fault_text (fault.TooMany many row) = codes "20 TooMany " ++ many_text many ++ row_text row
fault_text (fault.FarFootpath p q) = codes "22 FarFootpath " ++ p ++ codes " " ++ q
fault_text (fault.BeyondDay spot) = codes "23 BeyondDay " ++ spot_text spot

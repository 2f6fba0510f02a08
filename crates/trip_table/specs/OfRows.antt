-- What a fault of rows says of a day.
use Rattle.gtfs_rows.specs.declared.fault.RowsFault.{RowsFault}
use Rattle.gtfs_rows.specs.declared.fault.RowsFault.TheVariants as rows
use Rattle.trip_table.specs.declared.day_fault.DayFault.{DayFault}
use Rattle.trip_table.specs.declared.day_fault.DayFault.TheVariants as why

-- the same fault, where a folder is read too
abbrev pub day_fault : RowsFault → DayFault
day_fault (rows.Feed f) = why.Feed f
day_fault rows.Memory = why.Memory

-- A position among the records of a file, wherever they come from.
use Rattle.gtfs_rows.specs.Records.{RecordPosition}
use Rattle.gtfs_rows.specs.declared.records.Source.{Source}
use Rattle.gtfs_rows.specs.declared.records.Source.TheVariants as source

abbrev pub position_of : Source → RecordPosition
position_of (source.Plain records) = records
position_of (source.Quoted records) = records

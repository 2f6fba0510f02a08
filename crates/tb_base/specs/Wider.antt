-- A timetable with all trips of another one.
use Rattle.std.specs.Prelude.{◌≡◌, All, Contains}
use Rattle.tb_base.specs.TimetableData.{TimetableData}

-- all that the other one has: the same stops, stations and footpaths, and each of its trips, maybe
-- under another number
pub record HasAllOf (U T : TimetableData) : Type 0 where
  pub stops : T.stops ≡ U.stops
  pub stations : T.stations ≡ U.stations
  pub footpaths : T.footpaths ≡ U.footpaths
  pub trips : All (Contains U.trips) T.trips

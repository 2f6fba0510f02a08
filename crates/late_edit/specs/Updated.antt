-- Timetables that differ in times and marks alone.
use Rattle.std.specs.Prelude.{◌≡◌, map, pos, false}
use Rattle.tb_base.specs.declared.table.Event.{Event}
use Rattle.tb_base.specs.TimetableData.{TripData, TimetableData}
use Rattle.line_split.specs.LinesData.{LinesData}

-- of an event its stop alone
abbrev pub bare_event : Event → Event
bare_event e = record { stop = e.stop; arr = pos 0; dep = pos 0; board = false; alight = false }

-- of a trip its name, its day and its stops
abbrev pub bare_trip : TripData → TripData
bare_trip t =
    record { name = t.name; day = t.day; events = map bare_event t.events }

-- two timetables differ in times and marks alone: without these, all their trips are the same
pub record IsUpdated (T U : TimetableData) : Type 0 where
  pub stops : T.stops ≡ U.stops
  pub stations : T.stations ≡ U.stations
  pub trips : map bare_trip T.trips ≡ map bare_trip U.trips
  pub footpaths : T.footpaths ≡ U.footpaths

-- a timetable with its lines, and the same with other times and marks
pub record AmendmentData : Type 0 where
  pub before : LinesData
  pub after : LinesData

-- The mirror of a timetable: time runs backwards, and so does each trip and each footpath.
use Rattle.std.specs.Prelude.{◌≡◌, ℕ, ℤ, pos, ◌-ℤ◌, List, map, reverse}
use Rattle.tb_base.specs.declared.table.Event.{Event}
use Rattle.tb_base.specs.TimetableData.{FootpathData, TimetableData, TripData}
use Rattle.tb_base.specs.Walking.{footpath_secs}

-- a time in the mirror: the seconds from it until 273,599, so that the earliest time that an event
-- may have becomes the latest
abbrev pub mirror_time : ℤ → ℤ
mirror_time time = pos 273599 -ℤ time

-- an event in the mirror: one arrives when one departed, and boards where one alighted
abbrev pub mirror_event : Event → Event
mirror_event e = record {
  stop = e.stop;
  arr = mirror_time e.dep;
  dep = mirror_time e.arr;
  board = e.alight;
  alight = e.board;
}

-- a trip in the mirror: its events from the last to the first
abbrev pub mirror_events : List Event → List Event
mirror_events events = reverse (map mirror_event events)

abbrev pub mirror_trip : TripData → TripData
mirror_trip t = record { name = t.name; day = t.day; events = mirror_events t.events }

-- change times stay, and each footpath leads back, in as many seconds
pub record LeadBack (F G : FootpathData) : Type 0 where
  pub change : G.change ≡ F.change
  pub secs : (p q : ℕ) → footpath_secs G p q ≡ footpath_secs F q p

-- M is the mirror of T. Stops, stations, change times, and names and numbers of trips stay.
pub record IsMirror (T M : TimetableData) : Type 0 where
  pub stops : M.stops ≡ T.stops
  pub stations : M.stations ≡ T.stations
  pub trips : M.trips ≡ map mirror_trip T.trips
  pub footpaths : LeadBack T.footpaths M.footpaths

-- What a timetable keeps beside its parts.
use Rattle.std.specs.Prelude.{◌≡◌, ℕ, List, map}
use Rattle.tb_base.specs.TimetableData.{StationData, TimetableData, event_total, path_total}
use Rattle.tb_base.specs.Soundness.{IsSound}

-- sound parts, with the names of their stops and of their stations, and how many events and
-- footpaths they have
pub record IsIndexed (T : TimetableData) (of_stops of_stations : List (List ℕ))
    (event_count footpath_count : ℕ) : Type 0 where
  pub sound : IsSound T
  pub stop_names : of_stops ≡ map (λ s. s.name) T.stops
  pub station_names : of_stations ≡ map StationData.name T.stations
  pub events : event_count ≡ event_total T
  pub footpaths : footpath_count ≡ path_total T.footpaths

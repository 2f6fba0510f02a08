-- The rows of stops.txt: the numbers of platforms and stations, and the first thing that is wrong.
use Rattle.std.specs.Prelude.{◌≡◌, ◌≤◌, ℕ, length, map, Ok, ◌&&◌, not, List, [], ◌∷◌, Bool, Option, Some, None, filter, position, option_map, option_and_then, slice_get, bytes_eq, Result, Err, ⊤, if◌then◌else◌}
use Rattle.std.specs.List.{list_any}
use Rattle.std.specs.Option.{option_or}
use Rattle.gtfs_rows.specs.Faults.{spot, fault_if, check_rows}
use Rattle.gtfs_rows.specs.StopsFile.{StopData, is_platform, is_station}
use Rattle.gtfs_rows.specs.TransfersFile.{is_filled}
use Rattle.gtfs_rows.specs.declared.fault.FeedFile.TheVariants as file
use Rattle.gtfs_rows.specs.declared.fault.FeedFault.{FeedFault}
use Rattle.gtfs_rows.specs.declared.fault.FeedFault.TheVariants as fault
use Rattle.footpaths.specs.declared.found.Found.{Found}
use Rattle.footpaths.specs.declared.found.Found.TheVariants as found
use Rattle.footpaths.specs.declared.found.StopsFault.{StopsFault}
use Rattle.footpaths.specs.declared.found.StopsFault.TheVariants as why
use Rattle.gtfs_rows.specs.declared.columns.stops.TheConstants as columns

abbrev pub stop_id : StopData → List ℕ
stop_id s = s.id

abbrev pub has_stop_id : List ℕ → StopData → Bool
has_stop_id id s = bytes_eq id s.id

-- the platforms, in file order: the number of a platform is its place among them, from 0
abbrev pub platforms : List StopData → List StopData
platforms stops = filter (λ s. is_platform s.kind) stops

-- the stations, in file order: the number of a station is its place among them, from 0
abbrev pub stations : List StopData → List StopData
stations stops = filter (λ s. is_station s.kind) stops

-- what has an id: a platform or a station by its number, or a row of another kind
abbrev pub find_stop : List StopData → List ℕ → Option Found
find_stop stops id =
    option_or (option_map found.Platform (position (has_stop_id id) (platforms stops)))
    (option_or (option_map found.Station (position (has_stop_id id) (stations stops)))
    (if list_any (has_stop_id id) stops then Some found.Other else None))

-- the number of the station that a row names as its parent
abbrev pub parent_station : List StopData → StopData → Option ℕ
parent_station stops s = position (has_stop_id s.parent) (stations stops)

-- the station of a platform, both by their numbers
abbrev pub station_of : List StopData → ℕ → Option ℕ
station_of stops p = option_and_then (parent_station stops) (slice_get (platforms stops) p)

-- a row names a parent that no row of the file has
abbrev pub lacks_parent : List StopData → StopData → Bool
lacks_parent stops r = is_filled r.parent && not (list_any (has_stop_id r.parent) stops)

-- a row may have the id of an earlier row, or lack its parent
abbrev pub wrong_stop : List StopData → List StopData → StopData → List (Option FeedFault)
wrong_stop stops earlier r =
    fault_if (list_any (has_stop_id r.id) earlier)
    (fault.DuplicateId (spot file.Stops r.row columns.STOP_ID))
    ∷ fault_if (lacks_parent stops r)
    (fault.UnknownStop (spot file.Stops r.row columns.PARENT_STATION))
    ∷ []

-- the rows of stops.txt, or the first thing that is wrong with them
abbrev pub check_stops : List StopData → Result (List StopData) FeedFault
check_stops = check_rows wrong_stop

-- a refusal tells the first thing that is wrong, and want of memory says nothing
abbrev pub IsStopsRefused : Result (List StopData) FeedFault → StopsFault → Type 0
IsStopsRefused checked (why.DuplicateId row) =
    checked ≡ Err (fault.DuplicateId (spot file.Stops row columns.STOP_ID))
IsStopsRefused checked (why.UnknownStop row) =
    checked ≡ Err (fault.UnknownStop (spot file.Stops row columns.PARENT_STATION))
IsStopsRefused checked why.Memory = ⊤

-- what a table of stops keeps beside its rows: their ids, those of each kind, and the station of
-- each platform
pub record IsIndexed (stops : List StopData) (ids platform_ids station_ids : List (List ℕ))
    (parents : List (Option ℕ)) : Type 0 where
  pub few : length stops ≤ 100000
  pub checked : check_stops stops ≡ Ok stops
  pub named : ids ≡ map stop_id stops
  pub platform : platform_ids ≡ map stop_id (platforms stops)
  pub station : station_ids ≡ map stop_id (stations stops)
  pub parent : parents ≡ map (parent_station stops) (platforms stops)

-- Rows by the stop or station that they lead to, and platforms by their station.
use Rattle.std.specs.Prelude.{◌≡◌, ℕ, ◌+◌, ◌<◌, List, [], length, map, None, unwrap_or, slice_index_or, All, ⊤, get_or}
use Rattle.tb_base.specs.KeyPlaces.{places_of}
use Rattle.gtfs_rows.specs.StopsFile.{StopData}
use Rattle.footpaths.specs.declared.found.Found.{Found}
use Rattle.footpaths.specs.declared.found.Found.TheVariants as found
use Rattle.footpaths.specs.declared.found.Link.{Link}
use Rattle.footpaths.specs.Stops.{platforms, station_of}
use Rattle.footpaths.specs.Footpaths.{numbers}

-- the rows of stops.txt, and those of transfers.txt by the numbers of their ends
pub record LinkedPlatformsData : Type 0 where
  pub stops : List StopData
  pub links : List Link

abbrev pub link_at : List Link → ℕ → Link
link_at links i =
    slice_index_or links i (record { from = found.Other; to = found.Other; secs = None })

-- an end is one of the platforms or stations
abbrev pub IsEnd : List StopData → Found → Type 0
IsEnd stops (found.Platform n) = n < length (platforms stops)
IsEnd stops (found.Station k) = k < length stops
IsEnd stops found.Other = ⊤

pub record HasLinkEnds (stops : List StopData) (l : Link) : Type 0 where
  pub origin : IsEnd stops l.from
  pub target : IsEnd stops l.to

-- the number of a platform, or of a station, and another number where it is none
abbrev pub platform_key : ℕ → Found → ℕ
platform_key none (found.Platform n) = n
platform_key none (found.Station k) = none
platform_key none found.Other = none

abbrev pub station_key : ℕ → Found → ℕ
station_key none (found.Platform n) = none
station_key none (found.Station k) = k
station_key none found.Other = none

-- the keys by which rows and platforms are grouped
abbrev pub platform_keys : ℕ → List Link → List ℕ
platform_keys none links = map (λ l. platform_key none (Link.to l)) links

abbrev pub station_keys : ℕ → List Link → List ℕ
station_keys none links = map (λ l. station_key none (Link.to l)) links

abbrev pub parent_keys : List StopData → List ℕ
parent_keys stops =
    map (λ p. unwrap_or (station_of stops p) (length stops)) (numbers (length (platforms stops)))

-- each key has its places
pub record HasPlaces (keys : List ℕ) (count : ℕ) (places : List (List ℕ)) : Type 0 where
  pub many : length places ≡ count + 1
  pub each : (key : ℕ) → key < count + 1 → get_or places key [] ≡ places_of keys key

pub record AreLinkedPlatforms (stops : List StopData) (links : List Link)
    (members to_platform to_station : List (List ℕ)) : Type 0 where
  pub ends : All (HasLinkEnds stops) links
  pub member : HasPlaces (parent_keys stops) (length stops) members
  pub platform : HasPlaces (platform_keys (length stops) links) (length stops) to_platform
  pub station : HasPlaces (station_keys (length stops) links) (length stops) to_station

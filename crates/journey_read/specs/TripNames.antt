-- Trips by the places of their names.
use Rattle.std.specs.Prelude.{◌≡◌, ℕ, ◌+◌, ◌<◌, ◌≤◌, List, [], length, map, get_or, position, bytes_eq, unwrap_or}
use Rattle.tb_base.specs.KeyPlaces.{places_of}
use Rattle.tb_base.specs.TimetableData.{TripData}

-- the place of a name among these, or the number behind them where it isn't there
abbrev pub name_place : List (List ℕ) → ℕ → List ℕ → ℕ
name_place names behind name = unwrap_or (position (bytes_eq name) names) behind

-- the place of each trip's name
abbrev pub name_places : List (List ℕ) → List TripData → List ℕ
name_places names trips = map (λ t. name_place names (length trips) (TripData.name t)) trips

-- for each place, and the number behind all, the trips whose names have it
pub record AreByName (names groups : List (List ℕ)) (trips : List TripData) : Type 0 where
  pub few : length names ≤ length trips
  pub many : length groups ≡ length trips + 1
  pub each : (place : ℕ) → place < length trips + 1 →
      get_or groups place [] ≡ places_of (name_places names trips) place

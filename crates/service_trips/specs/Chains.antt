-- The rows of each trip from the last one back.
-- A row is named by how many rows end with it, so 0 is none.
use Rattle.std.specs.Prelude.{◌≡◌, ℕ, suc, ◌<◌, ◌≤◌, List, length, take, filter, slice_index, slice_index_or}
use Rattle.service_trips.specs.declared.stop_time.StopTime.{StopTime}
use Rattle.service_trips.specs.declared.chains.TripChains.{TripChains}
use Rattle.service_trips.specs.StopTimes.{is_of_trip}

-- of the first n rows, the last one of a trip
pub record IsLastRow (rows : List StopTime) (trip n last : ℕ) : Type 0 where
  pub within : last ≤ n
  pub none_after : filter (is_of_trip trip) (take n rows)
      ≡ filter (is_of_trip trip) (take last rows)
  pub own : (k : ℕ) (d : StopTime) → last ≡ suc k →
      StopTime.trip_row (slice_index_or rows k d) ≡ trip

-- the last row of each trip among the first n rows, and for each of them the one before it of its
-- trip
pub record AreChains (rows : List StopTime) (n trips : ℕ) (last_rows earlier_rows : List ℕ)
    : Type 0 where
  pub trip_count : length last_rows ≡ trips
  pub row_count : length earlier_rows ≡ n
  pub last : (trip : ℕ) → trip < trips → IsLastRow rows trip n (slice_index last_rows trip)
  pub earlier : (k : ℕ) (d : StopTime) → k < n →
      IsLastRow rows (StopTime.trip_row (slice_index_or rows k d)) k (slice_index earlier_rows k)

-- the rows of each of so many trips, from the last one back
abbrev pub ChainsOf : List StopTime → ℕ → TripChains → Type 0
ChainsOf rows trips chains =
    AreChains rows (length rows) trips chains.last.items chains.earlier.items

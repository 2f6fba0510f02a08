-- What is known of the ends of the rows of transfers.txt that were kept.
use Rattle.std.specs.Prelude.{◌≡◌, ℕ, List, All, true, bytes_eq, position, unwrap_or}
use Rattle.std.specs.List.{list_any}
use Rattle.gtfs_rows.specs.StopsFile.{StopData}
use Rattle.gtfs_rows.specs.TransfersFile.{TransferData}
use Rattle.footpaths.specs.Stops.{has_stop_id}
use Rattle.trip_table.specs.References.{same_key}
use Rattle.trip_table.specs.declared.seen.SequenceKey.{SequenceKey}

-- the ids are those of the stops
abbrev pub AreIdsOf : List (List ℕ) → List StopData → Type 0
AreIdsOf ids stops = (id : List ℕ) → list_any (bytes_eq id) ids ≡ list_any (has_stop_id id) stops

abbrev pub place_in : List (List ℕ) → List ℕ → ℕ
place_in ids id = unwrap_or (position (bytes_eq id) ids) 0

-- the places of both ends of a row
abbrev pub ends_in : List (List ℕ) → TransferData → SequenceKey
ends_in ids r = record { trip_row = place_in ids r.from; sequence = place_in ids r.to }

-- both ends of a row are there
pub record HasBoth (ids : List (List ℕ)) (r : TransferData) : Type 0 where
  pub from : list_any (bytes_eq r.from) ids ≡ true
  pub to : list_any (bytes_eq r.to) ids ≡ true

-- the rows that were kept have both ends, and these were seen
pub record KnowsEnds (ids : List (List ℕ)) (seen : List SequenceKey) (kept : List TransferData)
    : Type 0 where
  pub there : All (HasBoth ids) kept
  pub ends : (k : SequenceKey) →
      list_any (same_key k) seen ≡ list_any (λ e. same_key k (ends_in ids e)) kept

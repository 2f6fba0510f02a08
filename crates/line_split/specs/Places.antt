-- How the places of the trips of a line are noted.
use Rattle.std.specs.Prelude.{◌≡◌, ◌⊎◌, ℕ, ◌<◌, List, length, Some, slice_get, slice_index_or}

-- this is the place of trip t on the line with these trips
abbrev pub IsNoted : ℕ → List ℕ → ℕ → ℕ × ℕ → Type 0
IsNoted line trips t place = (place.0 ≡ line) × (slice_get trips place.1 ≡ Some t)

-- the first n trips of the line are noted, and all else is as it was, or is a place on this line
-- too
pub record NotesLine (line : ℕ) (trips : List ℕ) (n : ℕ) (old new : List (ℕ × ℕ)) : Type 0
  where
    pub long : length new ≡ length old
    pub noted : (k : ℕ) → k < n →
        IsNoted line trips (slice_index_or trips k 0)
        (slice_index_or new (slice_index_or trips k 0) (0, 0))
    pub others : (t : ℕ) →
        (slice_index_or new t (0, 0) ≡ slice_index_or old t (0, 0))
        ⊎ IsNoted line trips t (slice_index_or new t (0, 0))

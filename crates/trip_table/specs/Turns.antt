-- The turns in which rows of stops.txt lack their parents, where those that do are left out in turn.
use Rattle.std.specs.Prelude.{ℕ, ◌==◌, zero, suc, List, [], ◌∷◌, ◌++◌, length, map, slice_index, nat_le, Bool, bytes_eq, if◌then◌else◌}
use Rattle.std.specs.List.{position_or_len}
use Rattle.gtfs_rows.specs.StopsFile.{StopData}
use Rattle.gtfs_rows.specs.TransfersFile.{is_filled}
use Rattle.footpaths.specs.Stops.{stop_id}

-- the place of a row's parent by the ids of all rows, their number where it isn't there, and one
-- more where the row names none
abbrev pub base_of : List (List ℕ) → StopData → ℕ
base_of ids s =
    if is_filled s.parent then position_or_len (bytes_eq s.parent) ids else suc (length ids)

-- the same for the place of each row; the two places past the rows lead to themselves
abbrev pub bases_of : List StopData → List ℕ
bases_of rows =
    map (base_of (map stop_id rows)) rows ++ length rows ∷ suc (length rows) ∷ []

-- where so many steps from a place lead
abbrev pub place_after : List ℕ → ℕ → ℕ → ℕ
place_after bases zero place = place
place_after bases (suc steps) place = place_after bases steps (slice_index bases place)

-- how many steps from a place it takes to a last one, but no more than so many
abbrev pub steps_to : List ℕ → ℕ → ℕ → ℕ → ℕ
steps_to bases last zero place = 0
steps_to bases last (suc most) place =
    if place == last then 0 else suc (steps_to bases last most (slice_index bases place))

-- the turn, from 0, in which a row lacks its parent; the number of rows where it never does
abbrev pub turn_of : List StopData → StopData → ℕ
turn_of rows s =
    steps_to (bases_of rows) (length rows) (length rows) (base_of (map stop_id rows) s)

-- the rows that are there in a turn
abbrev pub is_there : List StopData → ℕ → StopData → Bool
is_there rows turn s = nat_le turn (turn_of rows s)

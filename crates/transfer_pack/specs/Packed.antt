-- Lists of hops one behind the other in one list.
use Rattle.std.specs.Prelude.{◌≡◌, Bool, false, ℕ, suc, ◌+◌, ◌-◌, ◌<◌, ◌≤◌, List, [], ◌∷◌, flat_map, length, take, drop, slice_index_or, nat_lt, if◌then◌else◌}
use Rattle.std.specs.List.{range_with_len}
use Rattle.tb_base.specs.declared.transfer.Hop.{Hop}
use Rattle.tb_base.specs.declared.transfer.Transfer.{Transfer}
use Rattle.tb_base.specs.OutSets.{hops_at, row_of}
use Rattle.tb_base.specs.TimetableData.{TimetableData, events_of}

-- the runs of hops between each bound and the next
abbrev pub runs_in : List Hop → List ℕ → List (List Hop)
runs_in hops [] = []
runs_in hops (a ∷ []) = []
runs_in hops (a ∷ b ∷ bounds) = take (b - a) (drop a hops) ∷ runs_in hops (b ∷ bounds)

-- bounds ascend, and the last is the end
abbrev pub AreBounds : List ℕ → ℕ → Type 0
AreBounds [] end = ⊥
AreBounds (a ∷ []) end = a ≡ end
AreBounds (a ∷ b ∷ bounds) end = (a ≤ b) × AreBounds (b ∷ bounds) end

-- the hops of all events of a timetable, one list an event, trip after trip
pub record PackedHops : Type 0 where
  pub table : TimetableData
  -- the number of each trip's first list, and of the list behind the last
  pub starts : List ℕ
  -- all hops, one list behind the other
  pub hops : List Hop
  -- where each list begins among them, and where the last ends
  pub bounds : List ℕ
  -- the lists
  pub runs : List (List Hop)

-- each event of the timetable has a list: those of a trip stand before those of the next
pub record FitsRuns (S : PackedHops) : Type 0 where
  pub trips : length S.starts ≡ suc (length S.table.trips)
  pub events : (t : ℕ) → t < length S.table.trips →
      slice_index_or S.starts t 0 + length (events_of S.table t) ≡ slice_index_or S.starts (suc t) 0
  pub within : (t : ℕ) → t ≤ length S.table.trips → slice_index_or S.starts t 0 ≤ length S.runs

-- the hops from event i of trip t
abbrev pub packed : PackedHops → ℕ → ℕ → List Hop
packed S t i =
    if nat_lt i (length (events_of S.table t))
    then slice_index_or S.runs (slice_index_or S.starts t 0 + i) []
    else []

-- the hops from event i of trip t: those of its transfers if the trip is marked, or else those that
-- it has in a set
abbrev pub hops_rebuilt : PackedHops → List Bool → List (List Transfer) → ℕ → ℕ → List Hop
hops_rebuilt kept redone rows t i =
    if slice_index_or redone t false then hops_at (row_of rows t) i else packed kept t i

-- where the hops from event i of trip t begin among all hops
abbrev pub begin_of : PackedHops → ℕ → ℕ → ℕ
begin_of S t i = slice_index_or S.bounds (slice_index_or S.starts t 0 + i) 0

-- the hops from events of trip t from `first` on and before i, one event behind the other
abbrev pub hops_before : (ℕ → ℕ → List Hop) → ℕ → ℕ → ℕ → List Hop
hops_before hops t first i = flat_map (hops t) (range_with_len first (i - first))

-- the hops from events `first` to `last` of trip t, one event behind the other
abbrev pub hops_over : (ℕ → ℕ → List Hop) → ℕ → ℕ → ℕ → List Hop
hops_over hops t first last = hops_before hops t first (suc last)

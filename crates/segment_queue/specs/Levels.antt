-- Marks by the number of rides, which a sweep over departures keeps from one departure to the next.
use Rattle.std.specs.Prelude.{◌≡◌, ℕ, suc, ◌-◌, ◌<◌, ◌≤◌, ◌⊎◌, List, [], ◌∷◌, ◌++◌, Option, length, slice_index_or}
use Rattle.tb_base.specs.Network.{NetData}
use Rattle.tb_base.specs.TimetableData.{TimetableData, events_of}
use Rattle.tb_base.specs.Search.{IsCovered, RoundSegment}
use Rattle.segment_queue.specs.Queue.{lowered_mark, mark_of}
use Rattle.segment_queue.specs.Scans.{trips_from}

-- the mark of trip t at level m, which is for at most m + 1 rides
abbrev pub level_mark : TimetableData → List (List (Option ℕ)) → ℕ → ℕ → ℕ
level_mark T levels m t = mark_of T (slice_index_or levels m []) t

-- Each mark is its trip's last index, or at it one of the segments has reached the trip, with at
-- most so many rides. The segments are those of all departures so far.
abbrev pub AreKept : TimetableData → List (List (Option ℕ)) → List RoundSegment → Type 0
AreKept T levels segments = (m t : ℕ) → m < length levels → t < length T.trips →
    (length (events_of T t) ≤ suc (level_mark T levels m t))
    ⊎ IsCovered T segments (length segments) (suc m) t (level_mark T levels m t)

-- marks never rise with the number of rides
abbrev pub AreDescending : TimetableData → List (List (Option ℕ)) → Type 0
AreDescending T levels = (k m t : ℕ) → k ≤ m → m < length levels → t < length T.trips →
    level_mark T levels m t ≤ level_mark T levels k t

-- the segment by which a trip is entered at a level
abbrev pub level_segment : TimetableData → List (List (Option ℕ)) → ℕ → ℕ → ℕ → RoundSegment
level_segment T levels k trip at =
    record { trip = trip; board = at; end = level_mark T levels k trip; round = suc k }

-- a trip is entered at a level: there and at all higher levels its mark and those of later trips of
-- its line fall, and lower levels stay
pub record EntersLevel (N : NetData) (k trip at : ℕ)
    (old new : List (List (Option ℕ))) : Type 0 where
  pub long : length new ≡ length old
  pub below : (m u : ℕ) → m < k → u < length N.table.trips →
      level_mark N.table new m u ≡ level_mark N.table old m u
  pub from : (m u : ℕ) → k ≤ m → m < length old → u < length N.table.trips →
      level_mark N.table new m u
      ≡ lowered_mark (trips_from N.lines trip) at u (level_mark N.table old m u)

-- a level more, with the marks of the last
abbrev pub with_level : List (List (Option ℕ)) → List (List (Option ℕ))
with_level levels = levels ++ slice_index_or levels (length levels - 1) [] ∷ []

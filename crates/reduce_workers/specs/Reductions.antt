-- The transfers of all trips, and what the reduction makes of them.
use Rattle.std.specs.Prelude.{ℕ, ◌+◌, ◌-◌, ◌*◌, ◌/◌, min, List, length, map, sum_by}
use Rattle.std.specs.List.{range_with_len}
use Rattle.tb_base.specs.declared.transfer.Hop.{Hop}
use Rattle.tb_base.specs.declared.transfer.Transfer.{Transfer}
use Rattle.tb_base.specs.TimetableData.{TimetableData}
use Rattle.tb_base.specs.Transfers.{candidates, candidates_without_u_turns, kept_hops, transfers_of}

-- the transfers of n trips from trip a on by these hops of their events, one list a trip
abbrev pub rows_from : TimetableData → (ℕ → ℕ → List Hop) → ℕ → ℕ → List (List Transfer)
rows_from T hops a n = map (λ t. transfers_of T (hops t) t) (range_with_len a n)

-- how many those are
abbrev pub count_from : TimetableData → (ℕ → ℕ → List Hop) → ℕ → ℕ → ℕ
count_from T hops a n = sum_by (λ t. length (transfers_of T (hops t) t)) (range_with_len a n)

-- transfers, one list a trip, and how many candidates there are, how many of them are no U-turns,
-- how many are kept, and of how many trips
pub record ReducedData : Type 0 where
  pub rows : List (List Transfer)
  pub generated : ℕ
  pub after_uturn : ℕ
  pub kept : ℕ
  pub trips : ℕ

-- of n trips from trip a on
abbrev pub reduced_from : TimetableData → List (List ℕ) → ℕ → ℕ → ReducedData
reduced_from T lines a n = record {
  rows = rows_from T (kept_hops T lines) a n;
  generated = count_from T (candidates T lines) a n;
  after_uturn = count_from T (candidates_without_u_turns T lines) a n;
  kept = count_from T (kept_hops T lines) a n;
  trips = n;
}

-- of all trips of the timetable with these lines
abbrev pub reduced : TimetableData → List (List ℕ) → ReducedData
reduced T lines = reduced_from T lines 0 (length T.trips)

-- how many pieces of 64 trips so many trips are, where the last piece may be shorter
abbrev pub piece_count : ℕ → ℕ
piece_count trips = (trips + 63) / 64

-- of the trips of piece p
abbrev pub piece_reduced : TimetableData → List (List ℕ) → ℕ → ReducedData
piece_reduced T lines p = reduced_from T lines (64 * p) (min 64 (length T.trips - 64 * p))

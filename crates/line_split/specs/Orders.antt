-- How trips and lines are sorted.
use Rattle.std.specs.Prelude.{◌≡◌, ◌<◌, ℕ, Bool, List, length, slice_index_or}
use Rattle.std.specs.Ordering.{int_cmp, is_lt, ordering_then}
use Rattle.std.specs.declared.cmp.Ordering.{Ordering}
use Rattle.tb_base.specs.TimetableData.{TimetableData, arrival_at, departure_at}
use Rattle.tb_base.specs.Lines.{compare_trips}
use Rattle.line_split.specs.declared.order.Timed.{Timed}

-- a trip with the times of its first event
pub record IsTimed (T : TimetableData) (a : Timed) : Type 0 where
  pub trip : a.trip < length T.trips
  pub arr : a.arr ≡ arrival_at T a.trip 0
  pub dep : a.dep ≡ departure_at T a.trip 0

-- by the times of the first events, then by all times, then by the numbers
abbrev pub compare_timed : TimetableData → Timed → Timed → Ordering
compare_timed T a b =
    ordering_then (ordering_then (int_cmp a.arr b.arr) (int_cmp a.dep b.dep))
    (compare_trips T a.trip b.trip)

-- trip t comes before trip u
abbrev pub trip_precedes : TimetableData → ℕ → ℕ → Bool
trip_precedes T t u = is_lt (compare_trips T t u)

-- the first trip of a line comes before that of another
abbrev pub line_precedes : TimetableData → List ℕ → List ℕ → Bool
line_precedes T k l = trip_precedes T (slice_index_or k 0 0) (slice_index_or l 0 0)

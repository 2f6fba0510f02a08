-- What is looked up in the lines of a timetable.
use Rattle.std.specs.Prelude.{◌≡◌, ℕ, ◌<◌, ◌==◌, Bool, List, [], length, map, filter, flat_map, drop, zero, suc, None, Option, Some, slice_get, slice_index_or}
use Rattle.tb_base.specs.declared.table.Event.{Event}
use Rattle.tb_base.specs.TimetableData.{TimetableData, events_of, stop_at}
use Rattle.tb_base.specs.Transfers.{may_be_boarded, numbers_below}
use Rattle.line_split.specs.declared.lines.Berth.{Berth}

-- the events of a line: those of its first trip, which has the stops and marks of all
abbrev pub line_events : TimetableData → List ℕ → List Event
line_events T line = events_of T (slice_index_or line 0 0)

-- the indexes at which a line calls at stop q: boarding allowed or not, the last one too
abbrev pub calls_at : TimetableData → List ℕ → ℕ → List ℕ
calls_at T line q =
    filter (λ j. stop_at T (slice_index_or line 0 0) j == q)
    (numbers_below (length (line_events T line)))

-- where lines call at stop q, by line, then by index
abbrev pub berths_at : TimetableData → List (List ℕ) → ℕ → List Berth
berths_at T lines q =
    flat_map
    (λ l. map (λ j. record { line = l; at = j }) (calls_at T (slice_index_or lines l []) q))
    (numbers_below (length lines))

-- an index of one of the lines
pub record IsBerth (T : TimetableData) (lines : List (List ℕ)) (b : Berth) : Type 0 where
  pub line : b.line < length lines
  pub at : b.at < length (line_events T (slice_index_or lines b.line []))

-- the line may be boarded there
abbrev pub is_boarded : TimetableData → List (List ℕ) → Berth → Bool
is_boarded T lines b =
    may_be_boarded T (slice_index_or (slice_index_or lines b.line []) 0 0) b.at

-- trip t stands on this line at this place
abbrev pub StandsAt : List (List ℕ) → ℕ → ℕ × ℕ → Type 0
StandsAt lines t place = slice_get (slice_index_or lines place.0 []) place.1 ≡ Some t

-- the trip just before a place of a line, where there is one
abbrev pub before_in : List ℕ → ℕ → Option ℕ
before_in line zero = None
before_in line (suc k) = slice_get line k

-- the same, where the line and the place are told together
abbrev pub trip_before : List (List ℕ) → ℕ × ℕ → Option ℕ
trip_before lines place = before_in (slice_index_or lines place.0 []) place.1

-- this is the trip just before t on the line of t, where there is one
pub record IsBefore (lines : List (List ℕ)) (t : ℕ) (before : Option ℕ) : Type 0 where
  pub place : ℕ × ℕ
  pub stands : StandsAt lines t place
  pub is : before ≡ trip_before lines place

-- these are the trips of a line from trip t on, which is the first of them
pub record IsRestOfLine (lines : List (List ℕ)) (t : ℕ) (trips : List ℕ) : Type 0 where
  pub place : ℕ × ℕ
  pub stands : StandsAt lines t place
  pub rest : trips ≡ drop place.1 (slice_index_or lines place.0 [])

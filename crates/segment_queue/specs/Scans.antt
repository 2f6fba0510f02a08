-- What a search sees of lines: the trips from one on, the line indices at a stop, and who boards
-- there.
use Rattle.std.specs.Prelude.{◌≡◌, ℕ, ◌<◌, ◌≤◌, ◌==◌, ◌⊎◌, Contains, List, [], ◌∷◌, Option, None, Some, slice_get, length, map, filter, flat_map, slice_index_or, if◌then◌else◌, ℤ, pos}
use Rattle.std.specs.List.{list_any}
use Rattle.std.specs.Option.{option_map}
use Rattle.tb_base.specs.declared.transfer.Hop.{Hop}
use Rattle.tb_base.specs.TimetableData.{TimetableData, events_of, stop_at}
use Rattle.tb_base.specs.Transfers.{line_from, earliest_trip, may_be_boarded, numbers_below}
use Rattle.segment_queue.specs.declared.seen.Followed.{Followed}
use Rattle.segment_queue.specs.declared.seen.Seen.{Seen}
use Rattle.transfer_pack.specs.Packed.{hops_before, hops_over}

-- the part of its line from trip t on
abbrev pub trips_from : List (List ℕ) → ℕ → List ℕ
trips_from [] t = []
trips_from (line ∷ lines) t = if list_any (λ x. x == t) line then line_from t line
    else trips_from lines t

-- of its line trip v stands just before trip t
abbrev pub StandsBefore : List (List ℕ) → ℕ → ℕ → Type 0
StandsBefore lines v t = trips_from lines v ≡ v ∷ trips_from lines t

-- trip t is the first of its line
abbrev pub IsFirst : List (List ℕ) → ℕ → Type 0
IsFirst lines t = Contains lines (trips_from lines t)

-- a line, and an index of its trips
pub record LineIndex : Type 0 where
  pub line : List ℕ
  pub at : ℕ

abbrev pub no_line_index : LineIndex
no_line_index = record { line = []; at = 0 }

-- the first trip of a line
abbrev pub first_trip : List ℕ → ℕ
first_trip line = slice_index_or line 0 0

-- the indices at which a line is at the stop
abbrev pub indices_at : TimetableData → ℕ → List ℕ → List LineIndex
indices_at T p line =
    map (λ j. record { line = line; at = j })
    (filter (λ j. stop_at T (first_trip line) j == p)
    (numbers_below (length (events_of T (first_trip line)))))

-- all line indices at the stop, by line, then index
abbrev pub line_indices_at : TimetableData → List (List ℕ) → ℕ → List LineIndex
line_indices_at T lines p = flat_map (indices_at T p) lines

-- the trip of the events that have been looked at
abbrev pub seen_trip : Seen → ℕ
seen_trip s = s.trip

-- the index of the first of them
abbrev pub seen_first : Seen → ℕ
seen_first s = s.first

-- the index of the last of them
abbrev pub seen_last : Seen → ℕ
seen_last s = s.last

-- when the first of them arrives
abbrev pub seen_arr : Seen → ℤ
seen_arr s = s.arr

-- no events: the first is behind the last
abbrev pub no_events : Seen
no_events = record { trip = 0; first = 1; last = 0; arr = pos 0 }

-- the events whose hops are followed
abbrev pub followed_seen : Followed → Seen
followed_seen f = f.seen

-- they are events of the timetable
pub record AreEvents (T : TimetableData) (s : Seen) : Type 0 where
  pub trip : seen_trip s < length T.trips
  pub order : seen_first s ≤ seen_last s
  pub within : seen_last s < length (events_of T (seen_trip s))

-- the hops from them, one event behind the other
abbrev pub hops_seen : (ℕ → ℕ → List Hop) → Seen → List Hop
hops_seen hops s = hops_over hops (seen_trip s) (seen_first s) (seen_last s)

-- the hops from those of them before event i, and up to it
abbrev pub hops_seen_before : (ℕ → ℕ → List Hop) → Seen → ℕ → List Hop
hops_seen_before hops s i = hops_before hops (seen_trip s) (seen_first s) i

abbrev pub hops_seen_to : (ℕ → ℕ → List Hop) → Seen → ℕ → List Hop
hops_seen_to hops s i = hops_over hops (seen_trip s) (seen_first s) i

-- who boards there no earlier than the time: the line's first trip in time, where boarding is
-- allowed and it isn't the last index
abbrev pub boarding_hop : TimetableData → LineIndex → ℤ → Option Hop
boarding_hop T b time =
    if may_be_boarded T (first_trip b.line) b.at
    then option_map (λ u. record { trip = u; at = b.at }) (earliest_trip T b.line b.at time)
    else None

-- each of the hops with a place from one up to another has been passed, or its place is one of these
abbrev pub HoldOpen : (Hop → Type 0) → List Hop → ℕ → ℕ → List ℕ → Type 0
HoldOpen passed hops from to places = (k : ℕ) (h : Hop) → from ≤ k → k < to →
    slice_get hops k ≡ Some h → passed h ⊎ Contains places k

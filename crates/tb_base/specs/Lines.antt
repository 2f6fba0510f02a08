-- Lines: trips with one pattern, none of which overtakes another.
use Rattle.std.specs.Prelude.{◌≡◌, ◌≢◌, ℕ, ◌<◌, ◌-◌, ◌==◌, ◌&&◌, Bool, true, false, not, List, [], ◌∷◌, ◌++◌, length, flat_map, fold, ℤ, ◌≤ℤ◌, int_le, if◌then◌else◌, All, AllPairs, Contains, IsTrue, slice_index_or}
use Rattle.std.specs.List.{concat}
use Rattle.std.specs.Ordering.{nat_cmp, int_cmp, is_lt, ordering_then}
use Rattle.std.specs.declared.cmp.Ordering.{Ordering}
use Rattle.std.specs.Cmp.Lexicographic.{slice_cmp}
use lib.Pointwise.{pointwise}
use Rattle.tb_base.specs.declared.table.Event.{Event}
use Rattle.tb_base.specs.TimetableData.{TimetableData, events_of, event_at}

abbrev pub same_mark : Bool → Bool → Bool
same_mark true b = b
same_mark false b = not b

-- event for event the same stop and marks, and the second trip is nowhere earlier
abbrev pub may_follow : List Event → List Event → Bool
may_follow =
    pointwise (λ e f. (e.stop == f.stop) && same_mark e.board f.board
    && same_mark e.alight f.alight && int_le e.arr f.arr && int_le e.dep f.dep)

-- the times of a trip: arrival and departure of each event in turn
abbrev pub times_of : List Event → List ℤ
times_of es = flat_map (λ e. e.arr ∷ e.dep ∷ []) es

-- trips by their times, then by their numbers
abbrev pub compare_trips : TimetableData → ℕ → ℕ → Ordering
compare_trips T t u =
    ordering_then (slice_cmp int_cmp (times_of (events_of T t)) (times_of (events_of T u)))
    (nat_cmp t u)

-- trip t comes before trip u
abbrev pub TripPrecedes : TimetableData → ℕ → ℕ → Type 0
TripPrecedes T t u = IsTrue (is_lt (compare_trips T t u))

-- all trips, by their times, then by their numbers
pub record IsTripOrder (T : TimetableData) (order : List ℕ) : Type 0 where
  pub trips : All (λ t. t < length T.trips) order
  pub complete : (t : ℕ) → t < length T.trips → Contains order t
  pub ordered : AllPairs (TripPrecedes T) order

-- the last trip of a line
abbrev pub last_trip : List ℕ → ℕ
last_trip line = slice_index_or line (length line - 1) 0

-- trip t may join a line: it may follow the line's last trip
abbrev pub may_join : TimetableData → List ℕ → ℕ → Bool
may_join T line t = may_follow (events_of T (last_trip line)) (events_of T t)

-- trip t joins the first line that it may join, else it opens a new one behind the others
abbrev pub place_trip : TimetableData → List (List ℕ) → ℕ → List (List ℕ)
place_trip T [] t = (t ∷ []) ∷ []
place_trip T (line ∷ lines) t =
    if may_join T line t then (line ++ t ∷ []) ∷ lines else line ∷ place_trip T lines t

-- the lines, in the order in which the trips open them
pub record AreLines (T : TimetableData) (lines : List (List ℕ)) : Type 0 where
  pub order : List ℕ
  pub in_order : IsTripOrder T order
  pub placed : lines ≡ fold (place_trip T) [] order

-- What later layers use of lines. They are all trips, each once, and along a line stops and marks
-- are the same and no time falls.
pub record AreDividedInto (T : TimetableData) (lines : List (List ℕ)) : Type 0 where
  pub trips : All (λ t. t < length T.trips) (concat lines)
  pub complete : (t : ℕ) → t < length T.trips → Contains (concat lines) t
  pub once : AllPairs (λ t u. t ≢ u) (concat lines)
  pub ordered :
      All (λ line. AllPairs (λ t u. IsTrue (may_follow (events_of T t) (events_of T u))) line) lines

-- the first event has the second one's stop and marks, and is nowhere later
pub record IsEventNoLater (e f : Event) : Type 0 where
  pub stop : e.stop ≡ f.stop
  pub board : e.board ≡ f.board
  pub alight : e.alight ≡ f.alight
  pub arr : e.arr ≤ℤ f.arr
  pub dep : e.dep ≤ℤ f.dep

-- trip t is so at each event of trip u
pub record IsTripNoLater (T : TimetableData) (t u : ℕ) : Type 0 where
  pub long : length (events_of T t) ≡ length (events_of T u)
  pub at : (k : ℕ) → IsEventNoLater (event_at T t k) (event_at T u k)

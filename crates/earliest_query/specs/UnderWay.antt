-- A search under way: what its desk keeps while the queue grows.
use Rattle.std.specs.Prelude.{◌≡◌, ◌≢◌, ℕ, suc, ◌+◌, ◌<◌, ◌≤◌, ◌⊎◌, List, [], ◌∷◌, ◌++◌, length, take, sum_by, Option, Some, All, AllPairs, slice_index, slice_index_or, Contains, IfSome, IsSomeAnd, pos, ◌+ℤ◌, ◌≤ℤ◌, ◌<ℤ◌}
use Rattle.tb_base.specs.Network.{NetData}
use Rattle.tb_base.specs.declared.query.Value.{Value}
use Rattle.tb_base.specs.declared.table.Path.{Path}
use Rattle.tb_base.specs.declared.transfer.Hop.{Hop}
use Rattle.tb_base.specs.TimetableData.{TimetableData, arrival_at, departure_at, events_of, stop_at, MayAlight, MayBoard}
use Rattle.tb_base.specs.Walking.{walk}
use Rattle.tb_base.specs.BestValues.{IsNoWorse, QueryData}
use Rattle.tb_base.specs.Lines.{IsTripNoLater}
use Rattle.tb_base.specs.Search.{IsCovered}
use Rattle.segment_queue.specs.declared.desk.Hit.{Hit}
use Rattle.segment_queue.specs.declared.desk.Segment.{Segment}
use Rattle.segment_queue.specs.Queue.{DeskData, IsInStep, covered_indices, mark_of}
use Rattle.segment_queue.specs.Traced.{IsEntered, IsTracedHit, UsesHops, round_of, round_segments, segment_of}
use Rattle.segment_queue.specs.Scans.{line_indices_at, trips_from}
use Rattle.earliest_query.specs.Choices.{ArrivesBy, IsFirstChoice}

-- segments of this round have joined the queue, and the hits are as before
pub record AddsSegments (D D' : DeskData) (round : ℕ) : Type 0 where
  pub more : List Segment
  pub segments : D'.segments ≡ D.segments ++ more
  pub rounds : (n : ℕ) → length D.segments ≤ n → n < length D'.segments →
      round_of D'.segments n ≡ round
  pub hits : D'.hits ≡ D.hits

-- how many marks a desk has, and how many segments, hits and notes it has room for
abbrev pub room_of : DeskData → List ℕ
room_of D = length D.marks ∷ D.segment_room ∷ D.hit_room ∷ D.note_room ∷ []

-- one of the first n segments, in this round or an earlier one, is of a trip that is no later than
-- t, and boarded at b or before
abbrev pub IsReachedBy : TimetableData → DeskData → ℕ → ℕ → ℕ → ℕ → Type 0
IsReachedBy T D n round t b = IsCovered T (round_segments D.segments) n round t b

-- how many trips of its line there are from trip t on
abbrev pub trips_left : NetData → ℕ → ℕ
trips_left N t = length (trips_from N.lines t)

-- the same as IsReachedBy, where there are no fewer trips on its line from the segment's trip than
-- from t
pub record IsReachedAhead (N : NetData) (segments : List Segment) (n round t b : ℕ) : Type 0 where
  pub cover : IsCovered N.table (round_segments segments) n round t b
  pub ahead : trips_left N t ≤ trips_left N (segment_of segments cover.by).trip

-- The queue of a search whose rounds have come up to this one.
pub record IsQueue (N : NetData) (Q : QueryData) (D : DeskData) (round : ℕ) : Type 0 where
  pub step : IsInStep N D
  pub entered : (n : ℕ) → n < length D.segments →
      IsEntered N.table Q D.segments n (segment_of D.segments n).parent
      (segment_of D.segments n).trip (segment_of D.segments n).board
  pub by_hops : UsesHops N.hops D.segments
  pub rounds : (n : ℕ) → n < length D.segments → round_of D.segments n ≤ round
  -- a trip's mark is its last index, or at it a segment has reached the trip
  pub marked : (t : ℕ) → t < length N.table.trips →
      (length (events_of N.table t) ≤ suc (mark_of N.table D.marks t))
      ⊎ IsReachedAhead N D.segments (length D.segments) round t (mark_of N.table D.marks t)
  -- the end of a segment is its trip's last index, or at it a segment before it has reached the
  -- trip
  pub ends : (n : ℕ) → n < length D.segments →
      (length (events_of N.table (segment_of D.segments n).trip)
      ≤ suc (segment_of D.segments n).end)
      ⊎ IsReachedAhead N D.segments n (round_of D.segments n) (segment_of D.segments n).trip
      (segment_of D.segments n).end

-- segment n covers index i of its trip
pub record Covers (D : DeskData) (n i : ℕ) : Type 0 where
  pub onward : (segment_of D.segments n).board < i
  pub within : i ≤ (segment_of D.segments n).end

-- each hop from index i of segment n has been followed
abbrev pub IsFollowed : NetData → DeskData → ℕ → ℕ → Type 0
IsFollowed N D n i = (h : Hop) → Contains (N.hops (segment_of D.segments n).trip i) h →
    IsReachedBy N.table D (length D.segments) (suc (round_of D.segments n)) h.trip h.at

-- each hop from index i of segment n has been followed, or one gets there no earlier than the best
-- hit so far arrives
abbrev pub IsDone : NetData → DeskData → Option Hit → ℕ → ℕ → Type 0
IsDone N D best n i =
    IsFollowed N D n i ⊎ ArrivesBy best (arrival_at N.table (segment_of D.segments n).trip i)

-- Index i of segment n is outdone: a segment of no later round has boarded, before that index, a
-- trip that is no later and from which more trips stand on its line.
pub record IsOutdone (N : NetData) (segments : List Segment) (n i : ℕ) : Type 0 where
  pub by : ℕ
  pub within : by < length segments
  pub by_then : round_of segments by ≤ round_of segments n
  pub trip : IsTripNoLater N.table (segment_of segments by).trip (segment_of segments n).trip
  pub ahead : trips_left N (segment_of segments n).trip
      < trips_left N (segment_of segments by).trip
  pub board : (segment_of segments by).board < i

-- to alight from segment n at index i, and walk to a target
pub record IsArrivalOffered (T : TimetableData) (Q : QueryData) (D : DeskData)
    (n i q secs : ℕ) : Type 0 where
  pub alights : MayAlight T (segment_of D.segments n).trip i
  pub target : Contains Q.to q
  pub walks : walk T (stop_at T (segment_of D.segments n).trip i) q ≡ Some secs

-- the best hit so far arrives no later than by alighting from segment n at index i
abbrev pub IsBounded : TimetableData → QueryData → DeskData → Option Hit → ℕ → ℕ → Type 0
IsBounded T Q D best n i = (q secs : ℕ) → IsArrivalOffered T Q D n i q secs →
    ArrivesBy best (arrival_at T (segment_of D.segments n).trip i +ℤ pos secs)

-- a round has dealt with index i of segment n: it is done with, and the best hit so far arrives no
-- later than by alighting there
pub record IsDealtWith (N : NetData) (Q : QueryData) (D : DeskData) (best : Option Hit) (n i : ℕ)
    : Type 0 where
  pub done : IsDone N D best n i
  pub bounded : IsBounded N.table Q D best n i

-- a hit of this round that arrives before the best so far
pub record IsNewHit (T : TimetableData) (Q : QueryData) (D : DeskData) (round : ℕ)
    (best : Option Hit) (h : Hit) : Type 0 where
  pub traced : IsTracedHit T Q D.segments h
  pub rides : h.value.rides ≡ round
  pub sooner : IfSome best (λ b. h.value.arrive <ℤ b.value.arrive)

-- the best hit is as before, or an earlier one of this round
abbrev pub IsImproved : TimetableData → QueryData → DeskData → ℕ → Option Hit → Option Hit → Type 0
IsImproved T Q D round best result = (result ≡ best) ⊎ IsSomeAnd result (IsNewHit T Q D round best)

-- how many indices the first n segments cover
abbrev pub covered_before : List Segment → ℕ → ℕ
covered_before segments n = sum_by covered_indices (take n segments)

-- some hit is no worse than this value
pub record IsHit (hits : List Hit) (v : Value) : Type 0 where
  pub by : Hit
  pub one : Contains hits by
  pub no_worse : IsNoWorse by.value v

-- whoever boards at the stop after a walk of so many seconds has been reached
abbrev pub IsStopBoarded : TimetableData → QueryData → DeskData → ℕ → ℕ → Type 0
IsStopBoarded T Q D stop secs = (t b : ℕ) → MayBoard T t b → b + 1 < length (events_of T t) →
    stop_at T t b ≡ stop → (Q.leave +ℤ pos secs) ≤ℤ departure_at T t b →
    IsReachedBy T D (length D.segments) 1 t b

-- all stops that are boarded from the origin at this place have been boarded
abbrev pub AreBoarded : TimetableData → QueryData → DeskData → ℕ → Type 0
AreBoarded T Q D place = (stop secs : ℕ) → walk T (slice_index Q.from place) stop ≡ Some secs →
    IsFirstChoice T Q.from place stop secs → IsStopBoarded T Q D stop secs

-- so many steps for a stop that is boarded, and none for one that isn't
abbrev pub BoardsOnce : NetData → List ℕ → ℕ → ℕ → ℕ → ℕ → ℕ → Type 0
BoardsOnce N origins place stop secs before after =
    (after ≡ before) ⊎ (IsFirstChoice N.table origins place stop secs
    × (after ≡ before + length (line_indices_at N.table N.lines stop)))

-- a stop that is boarded from an origin at a place from this one up to another
pub record IsChosen (T : TimetableData) (origins : List ℕ) (low high stop : ℕ) : Type 0 where
  pub inside : stop < length T.stops
  pub place : ℕ
  pub from_low : low ≤ place
  pub below : place < high
  pub within : place < length origins
  pub secs : ℕ
  pub walks : walk T (slice_index origins place) stop ≡ Some secs
  pub first : IsFirstChoice T origins place stop secs

-- the steps are the line indices at some stops that differ, each boarded from an origin at one of
-- these places
pub record BoardsStops (N : NetData) (origins : List ℕ) (low high before after : ℕ) : Type 0 where
  pub stops : List ℕ
  pub distinct : AllPairs (λ p q. p ≢ q) stops
  pub chosen : All (IsChosen N.table origins low high) stops
  pub steps : after ≡ before + sum_by (λ p. length (line_indices_at N.table N.lines p)) stops

-- the same, where each of the stops is the origin or one that the first paths lead to
pub record BoardsAmong (N : NetData) (origins : List ℕ) (place origin : ℕ) (paths : List Path)
    (count before after : ℕ) : Type 0 where
  pub stops : List ℕ
  pub distinct : AllPairs (λ p q. p ≢ q) stops
  pub chosen : All (IsChosen N.table origins place (place + 1)) stops
  pub steps : after ≡ before + sum_by (λ p. length (line_indices_at N.table N.lines p)) stops
  pub among : (q : ℕ) → Contains stops q →
      (q ≡ origin) ⊎ ((k : ℕ) × (k < count) × ((d : Path) → (slice_index_or paths k d).to ≡ q))

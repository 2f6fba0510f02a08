-- A sweep over departures, from the last to the first: it keeps its segments, its marks by the
-- number of rides and the values found.
use Rattle.std.specs.Prelude.{◌≡◌, ℕ, suc, ◌+◌, ◌<◌, ◌≤◌, ◌⊎◌, List, ◌++◌, length, map, Option, Some, All, AllPairs, Contains, pos, ◌+ℤ◌, ◌≤ℤ◌}
use Rattle.tb_base.specs.Network.{NetData}
use Rattle.tb_base.specs.declared.query.Value.{Value}
use Rattle.tb_base.specs.TimetableData.{TimetableData, arrival_at, departure_at, events_of, stop_at, MayBoard}
use Rattle.tb_base.specs.Walking.{walk}
use Rattle.tb_base.specs.BestValues.{IsAttained, IsStep, QueryData}
use Rattle.tb_laws.specs.Pruning.{HoldWalks, IsLate}
use Rattle.segment_queue.specs.declared.desk.Hit.{Hit}
use Rattle.segment_queue.specs.declared.desk.Segment.{Segment}
use Rattle.segment_queue.specs.Levels.{AreDescending, AreKept, level_mark}
use Rattle.segment_queue.specs.Queue.{DeskData, IsFalling, IsSoundSegment}
use Rattle.segment_queue.specs.Traced.{IsEntered, IsTracedHit, UsesHops, round_of, round_segments, segment_of}
use Rattle.earliest_query.specs.UnderWay.{Covers, IsStopBoarded, IsFollowed, IsHit, IsArrivalOffered, IsReachedBy}

-- The desk holds the segments of all departures so far, and the levels are its marks by the number
-- of rides.
pub record IsSweptQueue (N : NetData)
    (Q : QueryData) (D : DeskData) (levels : List (List (Option ℕ))) : Type 0 where
  pub sound : All (IsSoundSegment N.table) D.segments
  pub entered : (n : ℕ) → n < length D.segments → IsEntered N.table Q D.segments n
      (segment_of D.segments n).parent (segment_of D.segments n).trip
      (segment_of D.segments n).board
  pub by_hops : UsesHops N.hops D.segments
  -- there is a level for the ride of each segment
  pub rounds : (n : ℕ) → n < length D.segments → round_of D.segments n ≤ length levels
  -- there is a level
  pub some_level : 0 < length levels
  -- the end of a segment is its trip's last index, or at it a segment before it has reached the
  -- trip with no more rides
  pub ends : (n : ℕ) → n < length D.segments →
      (length (events_of N.table (segment_of D.segments n).trip)
      ≤ suc (segment_of D.segments n).end)
      ⊎ IsReachedBy N.table D n (round_of D.segments n) (segment_of D.segments n).trip
      (segment_of D.segments n).end
  pub kept : AreKept N.table levels (round_segments D.segments)
  pub descending : AreDescending N.table levels
  pub room : All (λ marks. length N.table.trips ≤ length marks) levels
  pub falling : All (λ marks. All (IsFalling N.table marks) N.lines) levels
  pub within : (m t : ℕ) → m < length levels → t < length N.table.trips →
      level_mark N.table levels m t < length (events_of N.table t)

-- Of the segments before this number all has been made: each hop has been followed where one does
-- not get there late, and the values hold all that they offer.
pub record IsGoneOn (N : NetData) (Q : QueryData) (D : DeskData)
    (values : List Value) (from : ℕ) : Type 0 where
  pub done : (n i : ℕ) → n < from → Covers D n i → IsFollowed N D n i
      ⊎ IsLate values (arrival_at N.table (segment_of D.segments n).trip i) (round_of D.segments n)
  pub offers : (n i q secs : ℕ) → n < from → Covers D n i → IsArrivalOffered N.table Q D n i q secs →
      IsLate values (arrival_at N.table (segment_of D.segments n).trip i +ℤ pos secs)
      (round_of D.segments n)
  pub attained : All (IsAttained N.table Q) values

-- the second desk has the segments of the first, and maybe more behind them
abbrev pub KeepsSegments : DeskData → DeskData → Type 0
KeepsSegments D E = (more : List Segment) × (E.segments ≡ D.segments ++ more)

-- whoever may be boarded first, no earlier than the time of the query, has been reached
abbrev pub AreStarted : TimetableData → QueryData → DeskData → Type 0
AreStarted T Q D = (p t b secs : ℕ) → Contains Q.from p → MayBoard T t b →
    b + 1 < length (events_of T t) → walk T p (stop_at T t b) ≡ Some secs →
    (Q.leave +ℤ pos secs) ≤ℤ departure_at T t b → IsReachedBy T D (length D.segments) 1 t b

-- whoever boards at a stop with a walk from the origin has been reached
abbrev pub IsWalkedFrom : TimetableData → QueryData → DeskData → ℕ → Type 0
IsWalkedFrom T Q D origin = (stop secs : ℕ) → walk T origin stop ≡ Some secs →
    IsStopBoarded T Q D stop secs

-- The sweep has come down to the time of the query.
pub record IsSweptTo (N : NetData)
    (Q : QueryData) (D : DeskData) (levels : List (List (Option ℕ))) (values : List Value)
    : Type 0 where
  pub queue : IsSweptQueue N Q D levels
  pub gone_on : IsGoneOn N Q D values (length D.segments)
  pub starts : AreStarted N.table Q D
  pub walks : HoldWalks N.table Q values

-- what a sweep keeps beside its desk: the marks by the number of rides, and the values found
pub record SweepData : Type 0 where
  pub levels : List (List (Option ℕ))
  pub values : List Value

-- The sweep has come down to the time of the query, but who leaves then need not have been boarded.
pub record IsSweptSoFar (N : NetData)
    (Q : QueryData) (D : DeskData) (S : SweepData) : Type 0 where
  pub queue : IsSweptQueue N Q D S.levels
  pub gone_on : IsGoneOn N Q D S.values (length D.segments)

-- the values of these hits, and these values
abbrev pub values_with : List Hit → List Value → List Value
values_with hits values = map (λ (h : Hit). h.value) hits ++ values

-- the value is that of a hit, or no hit is no worse
abbrev pub IsKeptBeside : List Hit → Value → Type 0
IsKeptBeside hits v = Contains (map (λ (h : Hit). h.value) hits) v ⊎ (IsHit hits v → ⊥)

-- A time of the sweep under way: the segments before this number have been ridden, and those from
-- it on are of this round. The values are those with rides of the times before.
pub record IsSweptRound (N : NetData)
    (Q : QueryData) (D : DeskData) (levels : List (List (Option ℕ))) (values : List Value)
    (from round : ℕ) : Type 0 where
  pub queue : IsSweptQueue N Q D levels
  pub gone_on : IsGoneOn N Q D (values_with D.hits values) from
  pub starts : AreStarted N.table Q D
  pub walks : HoldWalks N.table Q (values_with D.hits values)
  pub some_round : 1 ≤ round
  pub within : from ≤ length D.segments
  pub this_round : (n : ℕ) → from ≤ n → n < length D.segments → round_of D.segments n ≡ round
  pub traced : All (IsTracedHit N.table Q D.segments) D.hits
  pub stairs : AllPairs (λ (h k : Hit). IsStep h.value k.value) D.hits
  pub fewer : All (λ (h : Hit). h.value.rides < round) D.hits
  pub attained : All (IsAttained N.table Q) values

-- What the segments and hits of a desk say of journeys.
use Rattle.std.specs.Prelude.{◌≡◌, ℕ, suc, ◌<◌, ◌≤◌, List, [], ◌∷◌, ◌++◌, Option, None, Some, length, map, filter_map, fold, slice_index_or, ℤ, pos, ◌+ℤ◌, ◌≤ℤ◌, ⊤, All, Contains}
use Rattle.tb_base.specs.Network.{NetData}
use Rattle.tb_base.specs.declared.query.Leg.{Leg}
use Rattle.tb_base.specs.declared.query.Leg.TheVariants.{Walk as WalkLeg, Ride as RideLeg}
use Rattle.tb_base.specs.declared.transfer.Hop.{Hop}
use Rattle.tb_base.specs.TimetableData.{TimetableData, stop_at, arrival_at, departure_at, MayBoard, MayAlight}
use Rattle.tb_base.specs.Walking.{walk}
use Rattle.tb_base.specs.Journeys.{Ride}
use Rattle.tb_base.specs.BestValues.{QueryData, AreBestValues}
use Rattle.tb_base.specs.Sufficiency.{IsPossibleHop}
use Rattle.tb_base.specs.Search.{RoundSegment, segment_at}
use Rattle.segment_queue.specs.declared.desk.Segment.{Segment}
use Rattle.segment_queue.specs.declared.desk.Hit.{Hit}
use Rattle.segment_queue.specs.declared.desk.LastLeg.{LastLeg}
use Rattle.segment_queue.specs.declared.desk.LastLeg.TheVariants.{OnFoot, Aboard}
use Rattle.segment_queue.specs.Queue.{DeskData, IsSoundSegment}

abbrev pub no_segment : Segment
no_segment = record { trip = 0; board = 0; end = 0; parent = None }

-- segment n of the queue
abbrev pub segment_of : List Segment → ℕ → Segment
segment_of segments n = slice_index_or segments n no_segment

-- the round of a segment behind these: 1 without a parent, else one more than the parent's
abbrev pub round_after : List RoundSegment → Option (ℕ × ℕ) → ℕ
round_after before None = 1
round_after before (Some p) = suc (segment_at before p.0).round

abbrev pub with_round : List RoundSegment → Segment → List RoundSegment
with_round before s =
    before ++ record {
      trip = s.trip;
      board = s.board;
      end = s.end;
      round = round_after before s.parent;
    } ∷ []

-- the segments with their rounds: how many segments there are from each back to one without a
-- parent
abbrev pub round_segments : List Segment → List RoundSegment
round_segments segments = fold with_round [] segments

abbrev pub round_of : List Segment → ℕ → ℕ
round_of segments n = (segment_at (round_segments segments) n).round

-- a first ride: by a walk from an origin it is boarded, no earlier than asked
pub record IsBoardedFirst (T : TimetableData) (Q : QueryData) (trip board : ℕ) : Type 0 where
  pub boards : MayBoard T trip board
  pub origin : ℕ
  pub from : Contains Q.from origin
  pub secs : ℕ
  pub walks : walk T origin (stop_at T trip board) ≡ Some secs
  pub in_time : (Q.leave +ℤ pos secs) ≤ℤ departure_at T trip board

-- a later ride: segment n is hopped onto from an index that its parent, which stands before it,
-- covers
pub record IsHoppedOnto (T : TimetableData) (segments : List Segment) (n : ℕ) (parent : ℕ × ℕ)
    (trip board : ℕ) : Type 0 where
  pub earlier : parent.0 < n
  pub onward : (segment_of segments parent.0).board < parent.1
  pub within : parent.1 ≤ (segment_of segments parent.0).end
  pub possible : IsPossibleHop T (segment_of segments parent.0).trip parent.1
      (record { trip = trip; at = board })

-- segment n with this parent is boarded so
abbrev pub IsEntered : TimetableData → QueryData → List Segment → ℕ → Option (ℕ × ℕ) →
    ℕ → ℕ → Type 0
IsEntered T Q segments n None trip board = IsBoardedFirst T Q trip board
IsEntered T Q segments n (Some parent) trip board = IsHoppedOnto T segments n parent trip board

-- a walk from an origin to a target
pub record IsWalkHit (T : TimetableData) (Q : QueryData) (from to : ℕ) (arrive : ℤ)
    (rides : ℕ) : Type 0 where
  pub origin : Contains Q.from from
  pub target : Contains Q.to to
  pub secs : ℕ
  pub walks : walk T from to ≡ Some secs
  pub arrives : arrive ≡ Q.leave +ℤ pos secs
  pub no_ride : rides ≡ 0

-- one alights from segment n at index i and walks to a target, than which none is nearer
pub record IsRideHit (T : TimetableData) (Q : QueryData) (segments : List Segment) (n i to : ℕ)
    (arrive : ℤ) (rides : ℕ) : Type 0 where
  pub inside : n < length segments
  pub onward : (segment_of segments n).board < i
  pub within : i ≤ (segment_of segments n).end
  pub alights : MayAlight T (segment_of segments n).trip i
  pub target : Contains Q.to to
  pub secs : ℕ
  pub walks : walk T (stop_at T (segment_of segments n).trip i) to ≡ Some secs
  pub nearest : (q s : ℕ) → Contains Q.to q →
      walk T (stop_at T (segment_of segments n).trip i) q ≡ Some s → secs ≤ s
  pub arrives : arrive ≡ arrival_at T (segment_of segments n).trip i +ℤ pos secs
  pub rounds : rides ≡ round_of segments n

abbrev pub IsTracedBy : TimetableData → QueryData → List Segment → LastLeg → ℤ → ℕ → Type 0
IsTracedBy T Q segments (OnFoot from to) arrive rides = IsWalkHit T Q from to arrive rides
IsTracedBy T Q segments (Aboard n i to) arrive rides = IsRideHit T Q segments n i to arrive rides

abbrev pub IsTracedHit : TimetableData → QueryData → List Segment → Hit → Type 0
IsTracedHit T Q segments h = IsTracedBy T Q segments h.last h.value.arrive h.value.rides

-- each segment and each hit leads back to an origin
pub record IsTraced (T : TimetableData) (Q : QueryData) (D : DeskData) : Type 0 where
  pub sound : All (IsSoundSegment T) D.segments
  pub entered : (n : ℕ) → n < length D.segments →
      IsEntered T Q D.segments n (segment_of D.segments n).parent (segment_of D.segments n).trip
      (segment_of D.segments n).board
  pub hits : All (IsTracedHit T Q D.segments) D.hits

-- each segment with a parent is hopped onto by a hop of the set
abbrev pub UsesHops : (ℕ → ℕ → List Hop) → List Segment → Type 0
UsesHops hops segments = (n : ℕ) (parent : ℕ × ℕ) → n < length segments →
    (segment_of segments n).parent ≡ Some parent →
    Contains (hops (segment_of segments parent.0).trip parent.1)
    (record { trip = (segment_of segments n).trip; at = (segment_of segments n).board })

-- the desk holds the answer to the query: its hits have the best values, and its segments go by
-- hops of the set
pub record IsAnswered (N : NetData) (Q : QueryData) (D : DeskData) : Type 0 where
  pub traced : IsTraced N.table Q D
  pub by_hops : UsesHops N.hops D.segments
  pub best : AreBestValues N.table Q (map (λ (h : Hit). h.value) D.hits)

-- from each ride to the next there is a hop of the set
abbrev pub RidesFollow : (ℕ → ℕ → List Hop) → List Ride → Type 0
RidesFollow hops [] = ⊤
RidesFollow hops (r ∷ []) = ⊤
RidesFollow hops (r ∷ s ∷ rest) =
    Contains (hops r.trip r.alight) (record { trip = s.trip; at = s.board })
    × RidesFollow hops (s ∷ rest)

abbrev pub ride_of_leg : Leg → Option Ride
ride_of_leg (WalkLeg p q secs) = None
ride_of_leg (RideLeg t b i) = Some (record { trip = t; board = b; alight = i })

-- the legs change from ride to ride by hops of the set
abbrev pub LegsFollow : (ℕ → ℕ → List Hop) → List Leg → Type 0
LegsFollow hops legs = RidesFollow hops (filter_map ride_of_leg legs)

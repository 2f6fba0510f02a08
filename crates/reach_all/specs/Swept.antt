-- A sweep over departures to every stop: what it holds of the segments that it has ridden.
use Rattle.std.specs.Prelude.{◌≡◌, ◌+◌, ◌<◌, ◌≤◌, ◌⊎◌, ℕ, List, ℤ, pos, ◌+ℤ◌, Option, length, slice_index_or, Contains}
use Rattle.tb_base.specs.Network.{NetData}
use Rattle.tb_base.specs.declared.query.Value.{Value}
use Rattle.tb_base.specs.BestValues.{IsAttained, QueryData}
use Rattle.tb_base.specs.TimetableData.{TimetableData, arrival_at, stop_at, MayAlight}
use Rattle.segment_queue.specs.Queue.{DeskData}
use Rattle.segment_queue.specs.Traced.{round_of, segment_of}
use Rattle.earliest_query.specs.Sweeping.{IsSweptSoFar, SweepData}
use Rattle.earliest_query.specs.UnderWay.{Covers}
use Rattle.reach_all.specs.Reach.{query_to, values_at}
use Rattle.reach_all.specs.Arriving.{AreStairs, IsWalkedOn, Keep}
use Rattle.reach_all.specs.Spreading.{HoldsAlighting}
use Rattle.reach_all.specs.TravelTimes.{IsWithin}

-- a journey to the stop that has rides, no more than the limit, arrives then
abbrev pub IsRideTo : TimetableData → List ℕ → Option ℕ → ℤ → ℕ → ℤ → Type 0
IsRideTo T from most leave stop time = (v : Value) × IsAttained T (query_to from leave stop) v
    × (0 < v.rides) × IsWithin most v.rides × (v.arrive ≡ time)

-- who alights at index i of segment n, after no more rides than the limit, is offered each stop
-- with a walk from there
abbrev pub HoldsIndex : TimetableData → Option ℕ → DeskData → List (List Value) → ℕ → ℕ → Type 0
HoldsIndex T most D lists n i = IsWithin most (round_of D.segments n) →
    HoldsAlighting T lists (segment_of D.segments n).trip i 1

-- the value is that of who alights within segment n, as one of one ride, and walks to the stop
pub record IsGivenBy (T : TimetableData) (D : DeskData) (n q : ℕ) (v : Value) : Type 0 where
  pub at : ℕ
  pub covers : Covers D n at
  pub alights : MayAlight T (segment_of D.segments n).trip at
  pub walks : IsWalkedOn T (stop_at T (segment_of D.segments n).trip at)
      (record { arrive = arrival_at T (segment_of D.segments n).trip at; rides = 1 }) q v

-- what segment n gives up to an index has been offered
pub record IsOfferedUpTo (T : TimetableData) (D : DeskData) (n last : ℕ)
    (old new : List (List Value)) : Type 0 where
  pub each_stop : length new ≡ length old
  pub stairs : AreStairs 1 new
  pub kept : Keep old new
  pub held : (i : ℕ) → (segment_of D.segments n).board < i → i ≤ last →
      HoldsAlighting T new (segment_of D.segments n).trip i 1
  pub only : (q : ℕ) (v : Value) → Contains (values_at new q) v →
      Contains (values_at old q) v ⊎ IsGivenBy T D n q v

-- For each stop the earliest arrival of the journeys with rides that the first segments give, as
-- a value of one ride.
pub record AreRidden (T : TimetableData) (Q : QueryData) (most : Option ℕ) (D : DeskData)
    (count : ℕ) (lists : List (List Value)) : Type 0 where
  pub each_stop : length lists ≡ length T.stops
  pub stairs : AreStairs 1 lists
  pub held : (n i : ℕ) → n < count → Covers D n i → HoldsIndex T most D lists n i
  pub only : (q : ℕ) (v : Value) → Contains (values_at lists q) v →
      IsRideTo T Q.from most Q.leave q v.arrive

-- the rounds of the first segments
pub record AreRounds (D : DeskData) (rounds : List ℕ) : Type 0 where
  pub round : (n d : ℕ) → n < length rounds → slice_index_or rounds n d ≡ round_of D.segments n
  pub few : (n : ℕ) → n < length rounds → round_of D.segments n ≤ n + 1

-- a time by a walk that begins at 0, or by an arrival after the departure
abbrev pub IsWalkOrRide : List Value → List Value → ℤ → ℤ → Type 0
IsWalkOrRide walks rides leave secs =
    ((v : Value) × Contains walks v × (v.arrive ≡ pos 0 +ℤ secs))
    ⊎ ((v : Value) × Contains rides v × (v.arrive ≡ leave +ℤ secs))

-- the sweep has come down to the time of the query, and all that its segments give is held
pub record IsSweptDown (N : NetData) (Q : QueryData) (most : Option ℕ) (D : DeskData)
    (S : SweepData) (rounds : List ℕ) (lists : List (List Value)) : Type 0 where
  pub sweep : IsSweptSoFar N Q D S
  pub ridden : AreRidden N.table Q most D (length D.segments) lists
  pub noted : AreRounds D rounds
  pub all : length rounds ≡ length D.segments

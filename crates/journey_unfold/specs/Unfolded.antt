-- What a hit of a desk is unfolded to: a journey by the chain of its parents.
use Rattle.std.specs.Prelude.{◌≡◌, ℕ, List, [], ◌∷◌, Option, None, Some, ⊤, reverse}
use Rattle.tb_base.specs.declared.query.Leg.{Leg}
use Rattle.tb_base.specs.declared.query.Value.{Value}
use Rattle.tb_base.specs.TimetableData.{TimetableData}
use Rattle.tb_base.specs.Journeys.{Ride, Journey}
use Rattle.tb_base.specs.BestValues.{QueryData, HasValue}
use Rattle.tb_base.specs.JourneyRules.{legs_of}
use Rattle.segment_queue.specs.declared.desk.Segment.{Segment}
use Rattle.segment_queue.specs.declared.desk.Hit.{Hit}
use Rattle.segment_queue.specs.declared.desk.LastLeg.{LastLeg}
use Rattle.segment_queue.specs.declared.desk.LastLeg.TheVariants.{OnFoot, Aboard}
use Rattle.segment_queue.specs.Traced.{segment_of}
use Rattle.plain_rounds.specs.Shown.{HasShortestWalks}

-- the ride in segment n that alights at index i
abbrev pub ride_in : List Segment → ℕ → ℕ → Ride
ride_in segments n i =
    record {
      trip = (segment_of segments n).trip;
      board = (segment_of segments n).board;
      alight = i;
    }

-- The rides of a chain of parents, the last one first: each is the ride in its segment up to the
-- index from which the ride behind it was hopped onto.
abbrev pub IsChain : List Segment → Option (ℕ × ℕ) → List Ride → Type 0
IsChain segments None [] = ⊤
IsChain segments None (r ∷ back) = ⊥
IsChain segments (Some end) [] = ⊥
IsChain segments (Some end) (r ∷ back) =
    (r ≡ ride_in segments end.0 end.1) × IsChain segments (segment_of segments end.0).parent back

-- the journey ends so: it is that walk, or its rides are those of the chain up to where one alights
abbrev pub EndsWith : List Segment → LastLeg → Journey → Type 0
EndsWith segments (OnFoot from to) j = j ≡ record { origin = from; rides = []; target = to }
EndsWith segments (Aboard n i to) j = IsChain segments (Some (n, i)) (reverse j.rides)

-- the legs spell a journey that ends so and has the value, with the shortest walks at both ends
pub record SpellEnding (T : TimetableData) (Q : QueryData) (segments : List Segment)
    (last : LastLeg) (v : Value) (legs : List Leg) : Type 0 where
  pub by : Journey
  pub has : HasValue T Q by v
  pub spelt : legs ≡ legs_of T by.origin by.rides by.target
  pub shortest : HasShortestWalks T Q by.origin by.rides by.target
  pub rides : EndsWith segments last by

-- the legs spell the journey of a hit
abbrev pub SpellHit : TimetableData → QueryData → List Segment → Hit → List Leg → Type 0
SpellHit T Q segments h legs = SpellEnding T Q segments h.last h.value legs

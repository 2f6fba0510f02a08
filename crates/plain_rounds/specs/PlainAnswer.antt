-- The best values so far, with journeys.
use Rattle.std.specs.Prelude.{◌≡◌, ℕ, ◌<◌, ◌≤◌, ◌+◌, List, map, sum, ℤ, ◌≤ℤ◌, Option, Contains, IfSome, IsSomeAnd, All, AllPairs}
use Rattle.tb_base.specs.declared.query.Leg.{Leg}
use Rattle.tb_base.specs.declared.query.Value.{Value}
use Rattle.tb_base.specs.TimetableData.{TimetableData}
use Rattle.tb_base.specs.BestValues.{QueryData, ChoiceData, IsAttained, IsNoWorse, IsStep}
use Rattle.plain_rounds.specs.declared.labels.StopLabel.{StopLabel}
use Rattle.plain_rounds.specs.declared.rounds.Rounds.{Rounds}
use Rattle.plain_rounds.specs.Labels.{IsNoLaterAt, IsOfferedByChange}
use Rattle.plain_rounds.specs.Rides.{AreArrivals, AreReady}
use Rattle.plain_rounds.specs.Rounds.{AreKept}
use Rattle.plain_rounds.specs.Shown.{SpellShortest}

-- The choices have at most so many rides, and for each value with at most so many rides there is
-- one that is no worse. The last arrival is the best.
pub record IsPlainAnswer (T : TimetableData) (Q : QueryData) (most : ℕ) (choices : List ChoiceData)
    (best : Option ℤ) : Type 0 where
  pub shown : All (λ c. SpellShortest T Q (ChoiceData.legs c) (ChoiceData.value c)) choices
  pub few : All (λ c. (ChoiceData.value c).rides ≤ most) choices
  pub stairs : AllPairs IsStep (map ChoiceData.value choices)
  pub least : (c : ChoiceData) → Contains choices c → IsSomeAnd best (λ b. b ≤ℤ c.value.arrive)
  pub had : IfSome best (λ b. (c : ChoiceData) × Contains choices c × (c.value.arrive ≡ b))
  pub covers : (v : Value) → IsAttained T Q v → v.rides ≤ most → (c : ChoiceData)
      × Contains choices c × IsNoWorse c.value v

-- the legs spell a journey that arrives at the time, with some rides and at most so many
abbrev pub IsShownWithin : TimetableData → QueryData → ℕ → List Leg → ℤ → Type 0
IsShownWithin T Q most legs arrive = (rides : ℕ) × (0 < rides) × (rides ≤ most)
    × SpellShortest T Q legs (record { arrive = arrive; rides = rides })

-- What the rounds keep: what is reached by so many rides, with the changes from there. Each round
-- but the last boards a trip earlier.
pub record IsRound (T : TimetableData) (Q : QueryData) (rides : ℕ) (r : Rounds) : Type 0 where
  pub kept : AreKept T r
  pub ready : AreReady T Q rides r.arrivals.ridden.items r.ready.items
  pub arrivals : AreArrivals T Q rides r.arrivals
  pub changed : (q : ℕ) (l : StopLabel) → IsOfferedByChange T r.arrivals.labels.items q l →
      IsNoLaterAt r.ready.items q l.time
  pub few : rides + sum r.boarded_at.items ≤ 10000000

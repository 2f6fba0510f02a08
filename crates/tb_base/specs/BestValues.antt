-- The best values of a query, by arrival and number of rides.
use Rattle.std.specs.Prelude.{◌≡◌, ℕ, ◌≤◌, ◌<◌, List, length, ℤ, ◌≤ℤ◌, ◌<ℤ◌, Option, MatchOption, All, AllPairs, Contains}
use Rattle.tb_base.specs.declared.query.Leg.{Leg}
use Rattle.tb_base.specs.declared.query.Value.{Value}
use Rattle.tb_base.specs.TimetableData.{TimetableData}
use Rattle.tb_base.specs.Journeys.{Journey, IsJourney, LeavesNoEarlier, arrival}

-- a query: origins, targets and the asked time
pub record QueryData : Type 0 where
  pub from : List ℕ
  pub to : List ℕ
  pub leave : ℤ

-- the arrival and the number of rides of a journey
abbrev pub value_of : TimetableData → ℤ → Journey → Value
value_of T asked j =
    record { arrive = arrival T asked j.origin j.rides j.target; rides = length j.rides }

-- a journey that the query allows, with its value
pub record HasValue (T : TimetableData) (Q : QueryData) (j : Journey) (v : Value) : Type 0 where
  pub journey : IsJourney T Q.from Q.to j
  pub leaves : LeavesNoEarlier T Q.leave j.origin j.rides
  pub value : v ≡ value_of T Q.leave j

abbrev pub IsAttained : TimetableData → QueryData → Value → Type 0
IsAttained T Q v = (j : Journey) × HasValue T Q j v

-- a value, and the legs of a journey
pub record ChoiceData : Type 0 where
  pub value : Value
  pub legs : List Leg

-- v arrives no later than w and has no more rides
abbrev pub IsNoWorse : Value → Value → Type 0
IsNoWorse v w = (v.arrive ≤ℤ w.arrive) × (v.rides ≤ w.rides)

-- a value that no different one is no worse than: Pareto-optimal
pub record IsBest (T : TimetableData) (Q : QueryData) (v : Value) : Type 0 where
  pub attained : IsAttained T Q v
  pub undominated : (w : Value) → IsAttained T Q w → IsNoWorse w v → w ≡ v

-- w has more rides than v, and arrives earlier
abbrev pub IsStep : Value → Value → Type 0
IsStep v w = (v.rides < w.rides) × (w.arrive <ℤ v.arrive)

-- the best values, all of them, by rides, smallest first
pub record AreBestValues (T : TimetableData) (Q : QueryData) (vs : List Value) : Type 0 where
  pub best : All (IsBest T Q) vs
  pub complete : (v : Value) → IsBest T Q v → Contains vs v
  pub ordered : AllPairs (λ v w. v.rides < w.rides) vs

-- the least number of which P holds, and none where it holds of no number
abbrev pub IsLeast : (ℤ → Type 0) → Option ℤ → Type 0
IsLeast P least = MatchOption least ((n : ℤ) → P n → ⊥) (λ m. P m × ((n : ℤ) → P n → m ≤ℤ n))

-- some journey of exactly one ride that leaves no earlier than asked arrives at the time
abbrev pub IsDirectArrival : TimetableData → QueryData → ℤ → Type 0
IsDirectArrival T Q time = IsAttained T Q (record { arrive = time; rides = 1 })

-- A search from some origins to every stop, under way.
use Rattle.std.specs.Prelude.{◌≡◌, ◌<◌, ◌⊎◌, ℕ, List, [], Bool, IsTrue, ℤ, pos, ◌+ℤ◌, length, slice_index_or, Contains, Some}
use Rattle.tb_base.specs.declared.query.Value.{Value}
use Rattle.tb_base.specs.BestValues.{QueryData}
use Rattle.tb_base.specs.TimetableData.{TimetableData, arrival_at, stop_at, MayAlight}
use Rattle.tb_base.specs.Walking.{walk}
use Rattle.tb_laws.specs.Pruning.{IsLate}
use Rattle.reach_all.specs.Reach.{values_at}
use Rattle.reach_all.specs.Arriving.{AreFoundByStop, AreStairs}

-- the query without a target
abbrev pub everywhere : List ℕ → ℤ → QueryData
everywhere from leave = record { from = from; to = []; leave = leave }

-- the value of a walk from an origin
pub record IsOnFoot (T : TimetableData) (from : List ℕ) (leave : ℤ) (q : ℕ) (v : Value)
    : Type 0 where
  pub origin : ℕ
  pub is_origin : Contains from origin
  pub secs : ℕ
  pub walks : walk T origin q ≡ Some secs
  pub is : v ≡ record { arrive = leave +ℤ pos secs; rides = 0 }

-- of each walk from an origin a value is held that is no worse
abbrev pub HoldStarts : TimetableData → List ℕ → ℤ → List (List Value) → Type 0
HoldStarts T from leave lists = (p q secs : ℕ) → Contains from p → walk T p q ≡ Some secs →
    IsLate (values_at lists q) (leave +ℤ pos secs) 0

-- the first values: of walks alone, and of all walks from origins
pub record AreStarts (T : TimetableData) (from : List ℕ) (leave : ℤ)
    (lists : List (List Value)) : Type 0 where
  pub found : AreFoundByStop T from leave 0 lists
  pub held : HoldStarts T from leave lists
  pub only : (q : ℕ) (v : Value) → Contains (values_at lists q) v → IsOnFoot T from leave q v

-- the same, of the walks from the first origins alone
pub record AreStartsOf (T : TimetableData) (from : List ℕ) (leave : ℤ) (count : ℕ)
    (lists : List (List Value)) : Type 0 where
  pub each_stop : length lists ≡ length T.stops
  pub held : (k d q secs : ℕ) → k < count → walk T (slice_index_or from k d) q ≡ Some secs →
      IsLate (values_at lists q) (leave +ℤ pos secs) 0
  pub only : (q : ℕ) (v : Value) → Contains (values_at lists q) v → IsOnFoot T from leave q v
  pub stairs : AreStairs 0 lists

-- who alights at index i of the trip, after so many rides, is offered each stop with a walk from
-- there
abbrev pub HoldsAlighting : TimetableData → List (List Value) → ℕ → ℕ → ℕ → Type 0
HoldsAlighting T lists trip i rides = MayAlight T trip i → (q secs : ℕ) →
    walk T (stop_at T trip i) q ≡ Some secs →
    IsLate (values_at lists q) (arrival_at T trip i +ℤ pos secs) rides

-- the values of a search under way, with at most so many rides
pub record AreSpread (T : TimetableData) (Q : QueryData) (rides : ℕ)
    (lists : List (List Value)) : Type 0 where
  pub found : AreFoundByStop T Q.from Q.leave rides lists
  pub starts : HoldStarts T Q.from Q.leave lists

-- so it is, unless memory was refused
abbrev pub AreSpreadOrRefused : Bool → TimetableData → QueryData → ℕ → List (List Value) → Type 0
AreSpreadOrRefused refused T Q rides lists = IsTrue refused ⊎ AreSpread T Q rides lists

abbrev pub HoldsAlightingOrRefused : Bool → TimetableData → List (List Value) → ℕ → ℕ → ℕ → Type 0
HoldsAlightingOrRefused refused T lists trip i rides =
    IsTrue refused ⊎ HoldsAlighting T lists trip i rides

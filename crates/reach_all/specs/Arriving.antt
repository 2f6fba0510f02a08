-- The values that have been found for each stop so far.
use Rattle.std.specs.Prelude.{◌≡◌, ◌⊎◌, ◌<◌, ◌≤◌, ◌==◌, ℕ, List, [], ◌∷◌, ℤ, pos, ◌+ℤ◌, int_le, if◌then◌else◌, length, All, AllPairs, Contains, Option, None, Some, slice_index_or}
use Rattle.tb_base.specs.declared.query.Value.{Value}
use Rattle.tb_base.specs.declared.table.Path.{Path}
use Rattle.tb_base.specs.BestValues.{IsAttained, IsStep}
use Rattle.tb_base.specs.TimetableData.{TimetableData}
use Rattle.tb_base.specs.Walking.{walk}
use Rattle.tb_laws.specs.Pruning.{AreCoveredBy, IsLate}
use Rattle.reach_all.specs.Reach.{query_to, values_at}

-- Values by rides, with one more that has at least as many. Where it arrives no earlier than the
-- last it is left out, and else it stands behind the last, or for it where both have as many rides.
abbrev pub with_value : List Value → Value → List Value
with_value [] v = v ∷ []
with_value (w ∷ []) v =
    if int_le w.arrive v.arrive then w ∷ []
    else if w.rides == v.rides then v ∷ []
    else w ∷ v ∷ []
with_value (w ∷ x ∷ more) v = w ∷ with_value (x ∷ more) v

-- the value of one ride that arrives then, where there is an arrival
abbrev pub lone : Option ℤ → List Value
lone None = []
lone (Some time) = record { arrive = time; rides = 1 } ∷ []

-- for each stop ever more rides and ever earlier arrivals, with at most so many rides
pub record AreStairs (rides : ℕ) (lists : List (List Value)) : Type 0 where
  pub few : (q : ℕ) → All (λ v. v.rides ≤ rides) (values_at lists q)
  pub stairs : (q : ℕ) → AllPairs IsStep (values_at lists q)

-- each value is still there, or one that is no worse
abbrev pub Keep : List (List Value) → List (List Value) → Type 0
Keep old new = (q : ℕ) → AreCoveredBy (values_at old q) (values_at new q)

-- the value of who is at a stop with another value, and walks on
pub record IsWalkedOn (T : TimetableData) (stop : ℕ) (v : Value) (q : ℕ) (w : Value)
    : Type 0 where
  pub secs : ℕ
  pub walks : walk T stop q ≡ Some secs
  pub is : w ≡ record { arrive = v.arrive +ℤ pos secs; rides = v.rides }

-- a value at a stop has been offered to each stop with a walk from there
pub record IsOfferedFrom (T : TimetableData) (stop : ℕ) (v : Value)
    (old new : List (List Value)) : Type 0 where
  pub each_stop : length new ≡ length old
  pub held : (q secs : ℕ) → walk T stop q ≡ Some secs →
      IsLate (values_at new q) (v.arrive +ℤ pos secs) v.rides
  pub kept : Keep old new
  pub only : (q : ℕ) (w : Value) → Contains (values_at new q) w →
      Contains (values_at old q) w ⊎ IsWalkedOn T stop v q w
  pub stairs : AreStairs v.rides new

-- the same, of the stop itself and of those that the first paths from it lead to
pub record AreOfferedBy (T : TimetableData) (stop : ℕ) (v : Value) (paths : List Path) (count : ℕ)
    (old new : List (List Value)) : Type 0 where
  pub each_stop : length new ≡ length old
  pub own : IsLate (values_at new stop) v.arrive v.rides
  pub by_path : (k : ℕ) (d : Path) → k < count →
      IsLate (values_at new (slice_index_or paths k d).to)
      (v.arrive +ℤ pos (slice_index_or paths k d).secs) v.rides
  pub kept : Keep old new
  pub only : (q : ℕ) (w : Value) → Contains (values_at new q) w →
      Contains (values_at old q) w ⊎ IsWalkedOn T stop v q w
  pub stairs : AreStairs v.rides new

-- the values of some journeys, for each stop
pub record AreFoundByStop (T : TimetableData) (from : List ℕ) (leave : ℤ) (rides : ℕ)
    (lists : List (List Value)) : Type 0 where
  pub each_stop : length lists ≡ length T.stops
  pub attained : (q : ℕ) → All (IsAttained T (query_to from leave q)) (values_at lists q)
  pub stairs : AreStairs rides lists

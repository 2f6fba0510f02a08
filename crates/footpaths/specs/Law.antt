-- The first breach of the law on footpaths.
use Rattle.std.specs.Prelude.{◌≡◌, ◌≢◌, ◌⊎◌, ℕ, ◌+◌, ◌<◌, Some, None}
use Rattle.tb_base.specs.TimetableData.{FootpathData}
use Rattle.tb_base.specs.Walking.{footpath_secs, change_between}
use Rattle.footpaths.specs.declared.law.LawFault.{LawFault}
use Rattle.footpaths.specs.declared.law.LawFault.TheVariants as why

-- a footpath from p to q, and one from there on to r, of so many seconds
pub record AreInARow (P : FootpathData) (p q r s t : ℕ) : Type 0 where
  pub away : p ≢ q
  pub onward : q ≢ r
  pub first : footpath_secs P p q ≡ Some s
  pub second : footpath_secs P q r ≡ Some t

-- two footpaths in a row without a change over both
pub record IsAbsent (P : FootpathData) (p q r : ℕ) : Type 0 where
  pub s : ℕ
  pub t : ℕ
  pub row : AreInARow P p q r s t
  pub absent : change_between P p r ≡ None

-- two footpaths in a row that are faster than the change over both
pub record IsLong (P : FootpathData) (p q r : ℕ) : Type 0 where
  pub s : ℕ
  pub t : ℕ
  pub u : ℕ
  pub row : AreInARow P p q r s t
  pub direct : change_between P p r ≡ Some u
  pub long : s + t < u

-- no breach of the law at three stops
pub record IsGood (P : FootpathData) (p q r : ℕ) : Type 0 where
  pub there : IsAbsent P p q r → ⊥
  pub short : IsLong P p q r → ⊥

-- a fault tells the breach at three stops
abbrev pub IsBreach : FootpathData → ℕ → ℕ → ℕ → LawFault → Type 0
IsBreach P p q r f =
    ((f ≡ why.Absent p q r) × IsAbsent P p q r) ⊎ ((f ≡ why.Long p q r) × IsLong P p q r)

-- a fault tells the first breach among the ways over q from p
pub record IsFirstOver (P : FootpathData) (p q : ℕ) (f : LawFault) : Type 0 where
  pub r : ℕ
  pub breach : IsBreach P p q r f
  pub earlier_end : (c : ℕ) → c < r → IsGood P p q c

-- a fault tells the first breach among the ways from p
pub record IsFirstFrom (P : FootpathData) (p : ℕ) (f : LawFault) : Type 0 where
  pub q : ℕ
  pub over : IsFirstOver P p q f
  pub earlier_middle : (b c : ℕ) → b < q → IsGood P p b c

-- A fault tells the first breach of the law, in order of the three numbers.
pub record IsFirstBreach (P : FootpathData) (f : LawFault) : Type 0 where
  pub p : ℕ
  pub from : IsFirstFrom P p f
  pub earlier_start : (a b c : ℕ) → a < p → IsGood P a b c

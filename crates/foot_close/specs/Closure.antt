-- Closure of footpaths: the shortest chains of given changes.
use Rattle.std.specs.Prelude.{◌≡◌, ℕ, ◌+◌, ◌≤◌, List, [], ◌∷◌, Option, None, Some, option_map, option_and_then, MatchOption}
use Rattle.footpaths.specs.Footpaths.{Changes}
use Rattle.tb_base.specs.TimetableData.{FootpathData}
use Rattle.tb_base.specs.Walking.{change_between}

-- the seconds of a chain of changes from one stop to another, by the stops on the way
abbrev pub chain : Changes → ℕ → List ℕ → ℕ → Option ℕ
chain given p [] r = given p r
chain given p (q ∷ via) r =
    option_and_then (λ s. option_map (λ t. s + t) (chain given q via r)) (given p q)

-- the seconds of the shortest chain
pub record IsShortest (given : Changes) (p r secs : ℕ) : Type 0 where
  pub via : List ℕ
  pub attained : chain given p via r ≡ Some secs
  pub least : (other : List ℕ) (s : ℕ) → chain given p other r ≡ Some s → secs ≤ s

-- each change is the shortest chain of given ones, and absent where there is none
abbrev pub IsClosure : Changes → Changes → Type 0
IsClosure given closed =
    (p r : ℕ) →
    MatchOption (closed p r) ((via : List ℕ) → chain given p via r ≡ None)
    (IsShortest given p r)

-- Change times and footpaths are the closure of others.
abbrev pub IsClosed : FootpathData → FootpathData → Type 0
IsClosed given closed = IsClosure (change_between given) (change_between closed)

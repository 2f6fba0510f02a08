-- What closing footpaths gives, and why it may give nothing.
use Rattle.std.specs.Prelude.{◌≡◌, ◌<◌, ◌≤◌, ℕ, length, Option, None, Some, Bool, true, false, nat_lt, IfSome, IsSomeAnd, count_by, sum_by, ⊤}
use Rattle.footpaths.specs.Footpaths.{Changes, numbers, paths_of}
use Rattle.tb_base.specs.TimetableData.{FootpathData, path_total}
use Rattle.tb_base.specs.Walking.{change_between}
use Rattle.foot_close.specs.Closure.{IsClosure}
use Rattle.foot_close.specs.declared.closed.Closed.{Closed}
use Rattle.foot_close.specs.declared.closed.CloseFault.{CloseFault}
use Rattle.foot_close.specs.declared.closed.CloseFault.TheVariants as why

-- something holds of the closure of given changes
pub record ClosureHas (given : FootpathData) (P : Changes → Type 0) : Type 0 where
  pub closed : Changes
  pub closure : IsClosure (change_between given) closed
  pub has : P closed

-- how many ordered pairs of the first n stops pass a test, equal stops among them
abbrev pub pair_count : ℕ → (ℕ → ℕ → Bool) → ℕ
pair_count n test = sum_by (λ p. count_by (test p) (numbers n)) (numbers n)

-- there was no change, and now there is one
abbrev pub is_added : Option ℕ → Option ℕ → Bool
is_added None (Some t) = true
is_added None None = false
is_added (Some s) t = false

-- there was a change, and now it takes fewer seconds
abbrev pub is_lowered : Option ℕ → Option ℕ → Bool
is_lowered (Some s) (Some t) = nat_lt t s
is_lowered (Some s) None = false
is_lowered None t = false

-- the change times and footpaths are those of a closure, and the counts tell what it changed
pub record IsHeld (given : FootpathData) (c : Closed) (closed : Changes) : Type 0 where
  pub paths : c.paths ≡ paths_of (length given.change) closed
  pub added : c.added ≡ pair_count (length given.change)
      (λ p q. is_added (change_between given p q) (closed p q))
  pub lowered : c.lowered ≡ pair_count (length given.change)
      (λ p q. is_lowered (change_between given p q) (closed p q))

-- how many ordered pairs of different stops have a change
abbrev pub footpath_total : FootpathData → Changes → ℕ
footpath_total given closed = path_total (paths_of (length given.change) closed)

-- at most a day, where there is a change
abbrev pub IsNear : Changes → ℕ → ℕ → Type 0
IsNear closed p q = IfSome (closed p q) (λ secs. secs ≤ 86400)

-- the first pair with a change of more than a day, in order of the two numbers
pub record IsFirstFar (closed : Changes) (p q : ℕ) : Type 0 where
  pub far : IsSomeAnd (closed p q) (λ secs. 86400 < secs)
  pub earlier_start : (a b : ℕ) → a < p → IsNear closed a b
  pub earlier_end : (b : ℕ) → b < q → IsNear closed p b

-- A refusal tells that the closure is too large, or else its first far pair; want of memory
-- says nothing.
abbrev pub IsCloseRefused : FootpathData → CloseFault → Type 0
IsCloseRefused given why.TooMany =
    ClosureHas given (λ closed. 2000000 < footpath_total given closed)
IsCloseRefused given (why.Far p q) =
    ClosureHas given (λ closed. (footpath_total given closed ≤ 2000000) × IsFirstFar closed p q)
IsCloseRefused given why.Memory = ⊤

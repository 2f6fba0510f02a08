-- The search for the shortest chains from one stop: the least seconds so far, the stops that got
-- them, and both in order.
use Rattle.std.specs.Prelude.{◌==◌, ◌≡◌, ◌≢◌, ◌⊎◌, ◌++◌, ℕ, ◌+◌, ◌*◌, ◌<◌, ◌≤◌, List, [], length, Option, None, Some, Bool, true, false, nat_lt, is_some, option_map, filter_map, slice_index_or, All, Contains, IsSomeAnd, MatchOption, count_by, sum_by, MatchBool}
use Rattle.std.specs.Option.{option_to_list}
use Rattle.tb_base.specs.declared.table.Path.{Path}
use Rattle.footpaths.specs.Footpaths.{Changes, numbers}
use Rattle.tb_base.specs.TimetableData.{FootpathData}
use Rattle.foot_close.specs.Closure.{chain, IsShortest}
use Rattle.foot_close.specs.declared.search.Reached.{Reached}

pub record SearchData : Type 0 where
  pub marks : List (Option ℕ)
  pub lowered : List ℕ
  pub waiting : List Reached

-- the seconds at a stop, where it was reached
abbrev pub mark : List (Option ℕ) → ℕ → Option ℕ
mark marks q = slice_index_or marks q None

-- no stop of so many was reached
pub record IsFresh (count : ℕ) (s : SearchData) : Type 0 where
  pub many : length s.marks ≡ count
  pub unreached : (q : ℕ) → mark s.marks q ≡ None
  pub none_waiting : s.waiting ≡ []

-- so many seconds are less than a mark
abbrev pub is_less : ℕ → Option ℕ → Bool
is_less s None = true
is_less s (Some t) = nat_lt s t

-- every stop that was lowered is there, and every stop with a mark was lowered
pub record IsCovered (marks : List (Option ℕ)) (lowered : List ℕ) : Type 0 where
  pub within : All (λ q. q < length marks) lowered
  pub covers : (q : ℕ) → mark marks q ≢ None → Contains lowered q

-- no mark is higher than a day for each stop that was reached
abbrev pub reached_count : List (Option ℕ) → ℕ
reached_count marks = count_by (λ o. is_some o) marks

abbrev pub IsBounded : List (Option ℕ) → Type 0
IsBounded marks = (q t : ℕ) → mark marks q ≡ Some t → t ≤ 86400 * reached_count marks

-- how far a mark can still fall, and all marks
abbrev pub mark_height : ℕ → Option ℕ → ℕ
mark_height top None = top
mark_height top (Some t) = t

abbrev pub height : List (Option ℕ) → ℕ
height marks = sum_by (mark_height (86400 * length marks + 1)) marks

-- a mark comes from a footpath of a row that so many seconds lead up to, and its stop is among some
pub record IsFrom (row : List Path) (secs : ℕ) (stops : List Reached) (q t : ℕ) : Type 0 where
  pub among : Contains stops (record { stop = q; secs = t })
  pub path : Path
  pub inside : Contains row path
  pub to : path.to ≡ q
  pub total : secs + path.secs ≡ t

-- the change within a stop, as a footpath
abbrev pub own_row : ℕ → Option ℕ → List Path
own_row q own = option_to_list (option_map (λ s. record { to = q; secs = s }) own)

-- the changes from a stop, its own among them, as footpaths
abbrev pub leaving : FootpathData → ℕ → List Path
leaving P q = own_row q (slice_index_or P.change q None) ++ slice_index_or P.paths q []

-- the footpaths of a row were looked at, where so many seconds lead up to them
pub record IsRelaxed (row : List Path) (secs : ℕ) (old new : SearchData) : Type 0 where
  pub many : length new.marks ≡ length old.marks
  pub more : List Reached
  pub grows : new.waiting ≡ old.waiting ++ more
  pub lowers : (q t : ℕ) → mark old.marks q ≡ Some t → IsSomeAnd (mark new.marks q) (λ u. u ≤ t)
  pub each : (q t : ℕ) → mark new.marks q ≡ Some t →
      (mark old.marks q ≡ Some t) ⊎ IsFrom row secs more q t
  pub relaxed : (f : Path) → Contains row f →
      IsSomeAnd (mark new.marks f.to) (λ u. u ≤ secs + f.secs)
  pub bounded : IsBounded new.marks
  pub count : reached_count old.marks ≤ reached_count new.marks
  pub cost : height new.marks + length more ≤ height old.marks

-- a mark holds so many seconds
abbrev pub is_held : ℕ → Option ℕ → Bool
is_held s None = false
is_held s (Some t) = t == s

-- the changes from a stop were looked at, where its seconds are still its least
abbrev pub IsGoneOn : FootpathData → Reached → SearchData → SearchData → Type 0
IsGoneOn P r old new =
    MatchBool (is_held r.secs (mark old.marks r.stop)) (IsRelaxed (leaving P r.stop) r.secs old new)
    (new ≡ old)

-- the marks are the shortest chains from a stop
abbrev pub AreShortest : Changes → ℕ → List (Option ℕ) → Type 0
AreShortest given p marks =
    (r : ℕ) →
    MatchOption (mark marks r) ((via : List ℕ) → chain given p via r ≡ None)
    (IsShortest given p r)

-- the stops that were reached, in order of their numbers, each with its seconds
abbrev pub reached_at : ℕ → Option ℕ → Option Reached
reached_at q secs = option_map (λ s. record { stop = q; secs = s }) secs

abbrev pub reached_of : ℕ → (ℕ → Option ℕ) → List Reached
reached_of n secs = filter_map (λ q. reached_at q (secs q)) (numbers n)

-- The lines in buckets, by the number of their pattern.
use Rattle.std.specs.Prelude.{◌≡◌, ℕ, ◌<◌, ◌≤◌, Bool, true, false, List, [], length, find, Option, None, Some, All, AllPairs, Contains, slice_index_or}
use Rattle.tb_base.specs.TimetableData.{TimetableData}
use Rattle.tb_base.specs.Lines.{last_trip, may_join}

-- the last trip of line l
abbrev pub last_of : List (List ℕ) → ℕ → ℕ
last_of lines l = last_trip (slice_index_or lines l [])

-- each bucket lists lines in ascending order, and each line stands in the bucket of its pattern
pub record AreBucketed (T : TimetableData) (numbers : List ℕ) (lines buckets : List (List ℕ)) :
    Type 0 where
  pub known : (b : ℕ) → All (λ l. l < length lines) (slice_index_or buckets b [])
  pub ascending : (b : ℕ) → AllPairs (λ k l. k < l) (slice_index_or buckets b [])
  pub trips : (l : ℕ) → l < length lines → last_of lines l < length T.trips
  pub there : (l : ℕ) → l < length lines →
      Contains (slice_index_or buckets (slice_index_or numbers (last_of lines l) 0) []) l

-- the place of the first line of a row that passes a test, if one does
abbrev pub IsFirstPlace : (ℕ → Bool) → List ℕ → Option ℕ → Type 0
IsFirstPlace test row None = find test row ≡ None
IsFirstPlace test row (Some place) =
    (place < length row) × (find test row ≡ Some (slice_index_or row place 0))

-- whether trip t may join line l
abbrev pub may_join_line : TimetableData → List (List ℕ) → ℕ → ℕ → Bool
may_join_line T lines t l = may_join T (slice_index_or lines l []) t

-- no line of a row passes a test, of those at the places from `low` on and before `high`
abbrev pub NonePasses : (ℕ → Bool) → List ℕ → ℕ → ℕ → Type 0
NonePasses test row low high =
    (k : ℕ) → low ≤ k → k < high → k < length row → test (slice_index_or row k 0) ≡ false

-- the place of the first line of a row that passes a test, of those at these places, if one does
abbrev pub IsFirstWithin : (ℕ → Bool) → List ℕ → ℕ → ℕ → Option ℕ → Type 0
IsFirstWithin test row low high None = NonePasses test row low high
IsFirstWithin test row low high (Some place) =
    (place < length row) × (test (slice_index_or row place 0) ≡ true)
    × NonePasses test row low place

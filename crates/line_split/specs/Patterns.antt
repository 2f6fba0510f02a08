-- A number that trips of one pattern have in common.
use Rattle.std.specs.Prelude.{◌≡◌, ℕ, ◌+◌, ◌*◌, ◌^◌, ◌%◌, ◌/◌, ◌<◌, Bool, List, [], ◌∷◌, length, filter, flat_map, fold, if◌then◌else◌, bit_xor, Contains, IsTrue, slice_index_or}
use Rattle.std.specs.Ordering.{nat_cmp, is_eq, is_lt}
use Rattle.std.specs.declared.cmp.Ordering.{Ordering}
use Rattle.std.specs.Cmp.Lexicographic.{slice_cmp}
use Rattle.tb_base.specs.declared.table.Event.{Event}
use Rattle.tb_base.specs.TimetableData.{TimetableData, events_of}
use Rattle.tb_base.specs.Lines.{may_follow}

-- one number more in the hash
unfoldable pub mix : ℕ → ℕ → ℕ
mix hash number = (bit_xor hash number * 0x9e3779b97f4a7c15) % 2 ^ 64

-- boarding and alighting, as one number
abbrev pub marks_of : Event → ℕ
marks_of e = (if e.board then 1 else 0) * 2 + (if e.alight then 1 else 0)

-- the hash of the stops and marks of some events
abbrev pub pattern_hash : List Event → ℕ
pattern_hash events = fold (λ hash e. mix (mix hash e.stop) (marks_of e)) 0 events

-- which of so many buckets a pattern belongs to
abbrev pub bucket_of : ℕ → List Event → ℕ
bucket_of count events = (pattern_hash events / 2 ^ 32) % count

-- the stops and marks of some events
abbrev pub pattern_of : List Event → List ℕ
pattern_of events = flat_map (λ e. e.stop ∷ marks_of e ∷ []) events

-- how the patterns of two trips compare
abbrev pub compare_patterns : TimetableData → ℕ → ℕ → Ordering
compare_patterns T t u =
    slice_cmp nat_cmp (pattern_of (events_of T t)) (pattern_of (events_of T u))

-- the pattern of trip t comes before that of trip u
abbrev pub pattern_precedes : TimetableData → ℕ → ℕ → Bool
pattern_precedes T t u = is_lt (compare_patterns T t u)

-- One trip has the pattern that a bucket's number is for. Behind the buckets' numbers come those of
-- the other patterns: how many of the other trips have an earlier pattern.
abbrev pub number_of : TimetableData → List ℕ → List ℕ → ℕ → ℕ → ℕ
number_of T first others bucket t =
    if is_eq (compare_patterns T t (slice_index_or first bucket 0)) then bucket
    else length first + length (filter (λ u. pattern_precedes T u t) others)

-- each trip has a number below a count, and two of which one may follow the other have one
pub record AreNumbered (T : TimetableData) (numbers : List ℕ) (count : ℕ) : Type 0 where
  pub long : length numbers ≡ length T.trips
  pub below : (t : ℕ) → t < length T.trips → slice_index_or numbers t 0 < count
  pub same : (t u : ℕ) → t < length T.trips → u < length T.trips →
      IsTrue (may_follow (events_of T t) (events_of T u)) →
      slice_index_or numbers t 0 ≡ slice_index_or numbers u 0

-- of two trips, of which one may follow the other, these are both or neither
abbrev pub HasWholePatterns : TimetableData → List ℕ → Type 0
HasWholePatterns T trips =
    (t u : ℕ) → t < length T.trips → u < length T.trips →
    IsTrue (may_follow (events_of T t) (events_of T u)) →
    (Contains trips t → Contains trips u) × (Contains trips u → Contains trips t)

-- Which lines of a bucket are known to be later than a limit.
use Rattle.std.specs.Prelude.{◌≡◌, ◌⊎◌, ℕ, ◌/◌, ◌%◌, ◌+◌, ◌-◌, ◌<◌, ◌≤◌, Bool, true, false, List, [], length, ℤ, pos, ◌<ℤ◌, All, slice_index_or}
use Rattle.std.specs.Int.{bit_at}
use Rattle.tb_base.specs.declared.table.Event.{Event}
use Rattle.tb_base.specs.TimetableData.{TimetableData, events_of, no_event}
use Rattle.line_split.specs.Buckets.{last_of}

-- an arrival, or a departure
abbrev pub time_by : Bool → Event → ℤ
time_by true e = e.dep
time_by false e = e.arr

-- the time of some events at one of them
abbrev pub time_at : ℕ → Bool → List Event → ℤ
time_at event departs es = time_by departs (slice_index_or es event no_event)

-- a bit for each line of a bucket, about the arrival, or departure, of its last trip at an event
pub record BitmapData : Type 0 where
  pub event : ℕ
  pub departs : Bool
  pub limit : ℤ
  pub bits : List ℕ

abbrev pub no_bitmap : BitmapData
no_bitmap = record { event = 0; departs = false; limit = pos 0; bits = [] }

-- the bit of the line at place k is 1
abbrev pub IsOut : BitmapData → ℕ → Type 0
IsOut bitmap k = bit_at (slice_index_or bitmap.bits (k / 64) 0) (k % 64) ≡ 1

-- some events are later than the limit
abbrev pub IsLate : BitmapData → List Event → Type 0
IsLate bitmap es = bitmap.limit <ℤ time_at bitmap.event bitmap.departs es

-- each bit is 0
abbrev pub IsUnset : BitmapData → Type 0
IsUnset bitmap = (k : ℕ) → ¬ (IsOut bitmap k)

-- where the bit is 1 there is a line, and its last trip is later than the limit
pub record IsBitmapOf (T : TimetableData) (lines : List (List ℕ)) (row : List ℕ)
    (bitmap : BitmapData) : Type 0 where
  pub inside : (k : ℕ) → IsOut bitmap k → k < length row
  pub late : (k : ℕ) → IsOut bitmap k →
      IsLate bitmap (events_of T (last_of lines (slice_index_or row k 0)))

abbrev pub AreBitmapsOf : TimetableData → List (List ℕ) → List ℕ → List BitmapData → Type 0
AreBitmapsOf T lines row bitmaps = All (IsBitmapOf T lines row) bitmaps

-- at most the bit at a place becomes 1, where some events are later than the limit
pub record IsMarked (place : ℕ) (es : List Event) (old new : BitmapData) : Type 0 where
  pub event : new.event ≡ old.event
  pub departs : new.departs ≡ old.departs
  pub limit : new.limit ≡ old.limit
  pub out : (k : ℕ) → IsOut new k → IsOut old k ⊎ ((k ≡ place) × IsLate old es)

-- the same for each of these bitmaps
pub record AreMarked (place : ℕ) (es : List Event) (old new : List BitmapData) : Type 0 where
  pub many : length new ≡ length old
  pub each : (i : ℕ) → i < length old →
      IsMarked place es (slice_index_or old i no_bitmap) (slice_index_or new i no_bitmap)

-- there is a bitmap at place i, and some events are no later than its limit
abbrev pub IsPicked : List BitmapData → List Event → ℕ → Type 0
IsPicked bitmaps es i = (i < length bitmaps) × ¬ (IsLate (slice_index_or bitmaps i no_bitmap) es)

-- in one of the bitmaps at some places the bit of the line at place k is 1
abbrev pub IsOutBy : List BitmapData → List ℕ → ℕ → Type 0
IsOutBy bitmaps picked k = (n : ℕ) × (n < length picked)
    × IsOut (slice_index_or bitmaps (slice_index_or picked n 0) no_bitmap) k

-- the bits of these eight words, from word `word` of a bitmap on, are 1 only for lines that are out
pub record AreOutIn (Out : ℕ → Type 0) (word : ℕ) (words : List ℕ) : Type 0 where
  pub many : length words ≡ 8
  pub out : (k : ℕ) → word ≤ k / 64 → k / 64 < word + 8 →
      bit_at (slice_index_or words (k / 64 - word) 0) (k % 64) ≡ 1 → Out k

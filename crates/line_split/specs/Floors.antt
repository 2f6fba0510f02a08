-- Times that no trip of a block of lines is before.
use Rattle.std.specs.Prelude.{◌≡◌, ◌≢◌, ℕ, ◌*◌, ◌/◌, ◌<◌, ◌≤◌, ◌⊎◌, List, [], length, ◌≤ℤ◌, slice_index_or}
use Rattle.tb_base.specs.declared.table.Event.{Event}
use Rattle.tb_base.specs.TimetableData.{TimetableData, events_of, no_event}
use Rattle.line_split.specs.Buckets.{last_of}
use Rattle.line_split.specs.Bitmaps.{BitmapData, AreBitmapsOf, AreMarked, IsOutBy}

-- an event arrives and departs no later than another
pub record IsEarlier (e f : Event) : Type 0 where
  pub arr : e.arr ≤ℤ f.arr
  pub dep : e.dep ≤ℤ f.dep

-- some events are no later than others, as far as both go
abbrev pub AreNoLater : List Event → List Event → Type 0
AreNoLater floor es = (j : ℕ) → j < length floor → j < length es →
    IsEarlier (slice_index_or floor j no_event) (slice_index_or es j no_event)

-- some events go no further than others, and are no later
pub record IsLower (low floor : List Event) : Type 0 where
  pub long : length low ≤ length floor
  pub at : AreNoLater low floor

-- each of these rows has no event before those of the floor of its block of 64
pub record AreBelow (floors rows : List (List Event)) : Type 0 where
  pub room : length rows ≤ 64 * length floors
  pub lower : (j : ℕ) → j < length rows →
      IsLower (slice_index_or floors (j / 64) []) (slice_index_or rows j [])

-- floors of blocks of 64 lines, those of blocks of 64 of these, and bitmaps
pub record FloorsData : Type 0 where
  pub near : List (List Event)
  pub far : List (List Event)
  pub bitmaps : List BitmapData

abbrev pub no_floor : FloorsData
no_floor = record { near = []; far = []; bitmaps = [] }

-- each block of 64 of these lines has a floor that is no later than the last trip of each of them
pub record AreFloorsOf (T : TimetableData) (lines : List (List ℕ)) (row : List ℕ)
    (floors : FloorsData) : Type 0 where
  pub room : length row ≤ 64 * length floors.near
  pub no_later : (k : ℕ) → k < length row →
      AreNoLater (slice_index_or floors.near (k / 64) [])
      (events_of T (last_of lines (slice_index_or row k 0)))
  pub far : AreBelow floors.far floors.near
  pub bitmaps : AreBitmapsOf T lines row floors.bitmaps

-- the same for the lines of each bucket
pub record AreFloors (T : TimetableData) (lines buckets : List (List ℕ))
    (floors : List FloorsData) : Type 0 where
  pub many : length floors ≡ length buckets
  pub each : (b : ℕ) →
      AreFloorsOf T lines (slice_index_or buckets b []) (slice_index_or floors b no_floor)

-- the floor of the block of place `place` is lowered to some events, or opened with them
pub record IsNoted (place : ℕ) (events : List Event) (old new : List (List Event)) :
    Type 0 where
  pub grown : length old ≤ length new
  pub room : place < 64 * length new
  pub most : (j : ℕ) → j < length new → j ≢ place / 64 → j < length old
  pub others : (j : ℕ) → j ≢ place / 64 →
      slice_index_or new j [] ≡ slice_index_or old j []
  pub lower : place / 64 < length old →
      IsLower (slice_index_or new (place / 64) []) (slice_index_or old (place / 64) [])
  pub here : IsLower (slice_index_or new (place / 64) []) events

-- a line with these events comes behind so many
pub record AreNoted (count : ℕ) (events : List Event) (old new : FloorsData) : Type 0 where
  pub near : IsNoted count events old.near new.near
  pub far : IsNoted (count / 64) (slice_index_or new.near (count / 64) []) old.far new.far
  pub bitmaps : AreMarked count events old.bitmaps new.bitmaps

-- the floor of the block of line k is later than some events, or the line is out by one of the
-- bitmaps at some places
abbrev pub IsPassed : FloorsData → List Event → List ℕ → ℕ → Type 0
IsPassed floors es picked k =
    ¬ (AreNoLater (slice_index_or floors.near (k / 64) []) es) ⊎ IsOutBy floors.bitmaps picked k

-- only the bitmaps of one bucket change
pub record IsSameBut (bucket : ℕ) (old new : List FloorsData) : Type 0 where
  pub many : length new ≡ length old
  pub near : (slice_index_or new bucket no_floor).near ≡ (slice_index_or old bucket no_floor).near
  pub far : (slice_index_or new bucket no_floor).far ≡ (slice_index_or old bucket no_floor).far
  pub others : (b : ℕ) → b ≢ bucket →
      slice_index_or new b no_floor ≡ slice_index_or old b no_floor

-- Which patterns are marked.
use Rattle.std.specs.Prelude.{◌≡◌, ℕ, ◌<◌, Bool, List, length, slice_index_or, true, false}
use Rattle.tb_base.specs.declared.table.Event.{Event}
use Rattle.tb_base.specs.TimetableData.{TimetableData, events_of}
use Rattle.tb_base.specs.Lines.{last_trip}
use Rattle.line_split.specs.Patterns.{bucket_of}

-- the bucket of a pattern has a mark
abbrev pub is_marked : List Bool → List Event → Bool
is_marked marks events = slice_index_or marks (bucket_of (length marks) events) false

-- the pattern of a line's last trip is marked
abbrev pub is_line_marked : TimetableData → List Bool → List ℕ → Bool
is_line_marked T marks line = is_marked marks (events_of T (last_trip line))

-- the pattern of some events is marked too
pub record AreMarked (events : List Event) (old new : List Bool) : Type 0 where
  pub long : length new ≡ length old
  pub kept : (b : ℕ) → slice_index_or old b false ≡ true → slice_index_or new b false ≡ true
  pub here : is_marked new events ≡ true

-- the patterns of changed trips are marked, as they are in both timetables
pub record MarksChanged (T U : TimetableData) (changed marks : List Bool) : Type 0 where
  pub some : 0 < length marks
  pub before : (t : ℕ) → t < length U.trips → slice_index_or changed t false ≡ true →
      is_marked marks (events_of T t) ≡ true
  pub after : (t : ℕ) → t < length U.trips → slice_index_or changed t false ≡ true →
      is_marked marks (events_of U t) ≡ true

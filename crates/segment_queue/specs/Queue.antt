-- The queue of a search: the segments that it has entered, a mark for each trip, and the hits.
use Rattle.std.specs.Prelude.{◌≡◌, ℕ, ◌+◌, ◌-◌, ◌==◌, ◌<◌, ◌≤◌, ◌⊎◌, List, [], ◌∷◌, ◌++◌, Option, None, length, min, sum_by, unwrap_or, slice_index_or, if◌then◌else◌, All, AllPairs}
use Rattle.std.specs.List.{list_any}
use Rattle.tb_base.specs.Network.{NetData}
use Rattle.tb_base.specs.TimetableData.{TimetableData, events_of, event_total}
use Rattle.tb_base.specs.Transfers.{numbers_below}
use Rattle.segment_queue.specs.declared.desk.Segment.{Segment}
use Rattle.segment_queue.specs.declared.desk.Hit.{Hit}
use Rattle.segment_queue.specs.declared.notes.Note.{Note}
use Rattle.segment_queue.specs.Scans.{IsFirst, StandsBefore, no_events, trips_from}

-- a desk: an index for each trip that has been reached, the segments, the hits and the notes in
-- order, and room for how many of them
pub record DeskData : Type 0 where
  pub marks : List (Option ℕ)
  pub segments : List Segment
  pub hits : List Hit
  pub notes : List Note
  pub segment_room : ℕ
  pub hit_room : ℕ
  pub note_room : ℕ

-- the note once its events were taken
abbrev pub spent : Note → Note
spent note = record { segment = note.segment; seen = no_events }

-- the last index of trip t
abbrev pub last_index : TimetableData → ℕ → ℕ
last_index T t = length (events_of T t) - 1

-- the mark of trip t: behind it the trip has been entered; the first mark is the last index
abbrev pub mark_of : TimetableData → List (Option ℕ) → ℕ → ℕ
mark_of T marks t = unwrap_or (slice_index_or marks t None) (last_index T t)

-- room for a mark for each trip, a segment and a note for each event, and one hit more
pub record Fits (T : TimetableData) (D : DeskData) : Type 0 where
  pub trips : length T.trips ≤ length D.marks
  pub segments : event_total T ≤ D.segment_room
  pub hits : event_total T < D.hit_room
  pub notes : event_total T ≤ D.note_room

-- a part of a trip, with at least one index behind its boarding
pub record IsSoundSegment (T : TimetableData) (s : Segment) : Type 0 where
  pub trip : s.trip < length T.trips
  pub onward : s.board < s.end
  pub within : s.end < length (events_of T s.trip)

-- A segment is clipped by the trip just before on its line: what is behind that trip's mark is
-- left out.
abbrev pub IsClipped : NetData → List (Option ℕ) → Segment → ℕ → Type 0
IsClipped N marks s end = (IsFirst N.lines s.trip × (end ≡ s.end))
    ⊎ ((v : ℕ) × (v < length N.table.trips) × StandsBefore N.lines v s.trip
    × (end ≡ min s.end (mark_of N.table marks v)))

-- how many indices a segment covers: those behind its boarding, up to its end
abbrev pub covered_indices : Segment → ℕ
covered_indices s = s.end - s.board

abbrev pub mark_total : TimetableData → List (Option ℕ) → ℕ
mark_total T marks = sum_by (mark_of T marks) (numbers_below (length T.trips))

abbrev pub last_total : TimetableData → ℕ
last_total T = sum_by (last_index T) (numbers_below (length T.trips))

-- along these trips the marks never rise
abbrev pub IsFalling : TimetableData → List (Option ℕ) → List ℕ → Type 0
IsFalling T marks trips = AllPairs (λ t u. mark_of T marks u ≤ mark_of T marks t) trips

-- The desk is in step with the timetable of a network and its lines.
pub record IsInStep (N : NetData) (D : DeskData) : Type 0 where
  pub fits : Fits N.table D
  pub marks : (t : ℕ) → t < length N.table.trips →
      mark_of N.table D.marks t < length (events_of N.table t)
  pub segments : All (IsSoundSegment N.table) D.segments
  -- what a trip's segments cover is above its mark
  pub above : All (λ s. mark_of N.table D.marks s.trip ≤ s.board) D.segments
  -- no two segments of one trip cover the same index
  pub apart : AllPairs (λ (s r : Segment). s.trip ≡ r.trip → r.end ≤ s.board) D.segments
  -- along a line the marks never rise
  pub falling : All (IsFalling N.table D.marks) N.lines
  -- the indices that are covered, and those at or below the marks, are at most all indices
  pub counted : sum_by covered_indices D.segments + mark_total N.table D.marks ≤ last_total N.table

-- the mark of trip u after these trips were entered at this index
abbrev pub lowered_mark : List ℕ → ℕ → ℕ → ℕ → ℕ
lowered_mark trips at u mark = if list_any (λ x. x == u) trips then min mark at else mark

-- the trip is entered at the index: it is covered from there up to its mark, and its mark and those
-- of later trips of its line fall
pub record EntersSegment (N : NetData) (trip at : ℕ) (parent : Option (ℕ × ℕ))
    (D D' : DeskData) : Type 0 where
  pub segments : D'.segments ≡ D.segments
      ++ record {
        trip = trip;
        board = at;
        end = mark_of N.table D.marks trip;
        parent = parent;
      } ∷ []
  pub marks : (u : ℕ) → u < length N.table.trips →
      mark_of N.table D'.marks u
      ≡ lowered_mark (trips_from N.lines trip) at u (mark_of N.table D.marks u)
  pub trips : length D'.marks ≡ length D.marks
  pub hits : D'.hits ≡ D.hits
  pub notes : D'.notes ≡ D.notes
  pub segment_room : D'.segment_room ≡ D.segment_room
  pub hit_room : D'.hit_room ≡ D.hit_room
  pub note_room : D'.note_room ≡ D.note_room

-- Events that a round has weighed, noted to go on from.
use Rattle.std.specs.Prelude.{◌≡◌, ℕ, suc, ◌<◌, ◌≤◌, ◌⊎◌, List, [], ◌∷◌, length, Option, None, Some, Contains}
use Rattle.tb_base.specs.BestValues.{QueryData}
use Rattle.tb_base.specs.Network.{NetData}
use Rattle.tb_base.specs.TimetableData.{arrival_at}
use Rattle.segment_queue.specs.declared.desk.Hit.{Hit}
use Rattle.segment_queue.specs.declared.desk.Segment.{Segment}
use Rattle.segment_queue.specs.declared.notes.Note.{Note}
use Rattle.segment_queue.specs.declared.seen.Followed.{Followed}
use Rattle.segment_queue.specs.declared.seen.Seen.{Seen}
use Rattle.segment_queue.specs.Queue.{DeskData}
use Rattle.segment_queue.specs.Scans.{followed_seen, seen_arr, seen_first, seen_last, seen_trip}
use Rattle.segment_queue.specs.Traced.{round_of, segment_of}
use Rattle.earliest_query.specs.UnderWay.{IsBounded, IsDone}

-- the note of segment n that is followed
abbrev pub note_of : ℕ → Followed → Note
note_of n followed = record { segment = n; seen = followed_seen followed }

-- a note is of the first indices that a segment of this round covers, and of when it reaches the
-- first of them
pub record IsSoundNote (N : NetData) (segments : List Segment) (round : ℕ) (note : Note)
    : Type 0 where
  pub inside : note.segment < length segments
  pub this_round : round_of segments note.segment ≡ round
  pub trip : seen_trip note.seen ≡ (segment_of segments note.segment).trip
  pub first : seen_first note.seen ≡ suc (segment_of segments note.segment).board
  pub order : seen_first note.seen ≤ seen_last note.seen
  pub within : seen_last note.seen ≤ (segment_of segments note.segment).end
  pub arr : seen_arr note.seen
      ≡ arrival_at N.table (segment_of segments note.segment).trip (seen_first note.seen)

-- a note is of index i of segment n
pub record IsOf (note : Note) (n i : ℕ) : Type 0 where
  pub segment : note.segment ≡ n
  pub from : seen_first note.seen ≤ i
  pub to : i ≤ seen_last note.seen

-- one of the notes is of index i of segment n
pub record IsNoted (notes : List Note) (n i : ℕ) : Type 0 where
  pub by : Note
  pub one : Contains notes by
  pub of : IsOf by n i

-- what was seen stands in the same trip, just behind what was seen before
pub record IsSeenBehind (before next : Seen) : Type 0 where
  pub trip : seen_trip next ≡ seen_trip before
  pub behind : seen_first next ≡ suc (seen_last before)

-- a note of what was seen of segment n, where anything was
abbrev pub notes_of : ℕ → Option Seen → List Note
notes_of n None = []
notes_of n (Some seen) = record { segment = n; seen = seen } ∷ []

-- index i of segment n is done with, or it is noted
abbrev pub IsLeft : NetData → DeskData → Option Hit → List Note → ℕ → ℕ → Type 0
IsLeft N D best notes n i =
    IsDone N D best n i ⊎ IsNoted notes n i

-- index i of segment n is weighed: it is done with or noted, and the best hit so far arrives no
-- later than by alighting there
pub record IsWeighedOff (N : NetData) (Q : QueryData) (D : DeskData) (best : Option Hit)
    (notes : List Note) (n i : ℕ) : Type 0 where
  pub left : IsLeft N D best notes n i
  pub bounded : IsBounded N.table Q D best n i

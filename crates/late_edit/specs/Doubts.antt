-- Where it isn't plain that the lines that are boarded at a stop are the same in two timetables.
use Rattle.std.specs.Prelude.{◌≡◌, ℕ, ◌<◌, ◌≤◌, List, [], All, IfSome, length, take, filter_map, ℤ, false, Bool, IsSome, Option, None, Some, slice_index_or}
use Rattle.std.specs.List.{list_any}
use Rattle.tb_base.specs.declared.table.Event.{Event}
use Rattle.tb_base.specs.declared.transfer.Transfer.{Transfer}
use Rattle.tb_base.specs.TimetableData.{TimetableData}
use Rattle.tb_base.specs.Walking.{change}
use Rattle.line_split.specs.declared.boardings.Boarding.{Boarding}
use Rattle.line_split.specs.Layout.{IsBoarding, berth_of}
use Rattle.line_split.specs.LinesData.{LinesData}
use Rattle.line_split.specs.LinesOf.{berths_at, line_events}
use Rattle.transfer_make.specs.ByBerth.{row_by}
use Rattle.late_edit.specs.declared.doubts.Doubt.{Doubt}
use Rattle.late_edit.specs.Touched.{has_other_events}

-- the transfer from t@i at a time onto a line where it is boarded, where there is one
abbrev pub row_onto : LinesData → ℕ → ℕ → ℤ → Option Boarding → Option Transfer
row_onto L t i time None = None
row_onto L t i time (Some b) = row_by L.table L.lines t i time (berth_of b)

-- the transfers from t@i at a time onto lines where they are boarded
abbrev pub rows_onto : LinesData → ℕ → ℕ → ℤ → List Boarding → List Transfer
rows_onto L t i time bs = filter_map (λ b. row_by L.table L.lines t i time (berth_of b)) bs

-- the transfers from t@i at a time onto the lines at stop q
abbrev pub rows_to : LinesData → ℕ → ℕ → ℕ → ℤ → List Transfer
rows_to L t i q time =
    filter_map (row_by L.table L.lines t i time) (berths_at L.table L.lines q)

-- a transfer leads to a trip with the same events in both
abbrev pub LeadsCalm : LinesData → LinesData → Transfer → Type 0
LeadsCalm L M r = has_other_events L.table M.table r.to_trip ≡ false

-- the same line in both, of trips with the same events, is boarded at the same index
pub record IsAlike (L M : LinesData) (b c : Boarding) : Type 0 where
  pub at : b.at ≡ c.at
  pub trips : slice_index_or L.lines b.line [] ≡ slice_index_or M.lines c.line []
  pub calm : All (λ u. has_other_events L.table M.table u ≡ false)
      (slice_index_or L.lines b.line [])

-- lines of the two that are boarded
pub record IsDoubt (L M : LinesData) (d : Doubt) : Type 0 where
  pub old : IfSome d.old (IsBoarding L.table L.lines)
  pub new : IfSome d.new (IsBoarding M.table M.lines)

-- from t@i at this time they give the same transfer, to a trip with the same events, or none
pub record IsSettled (L M : LinesData) (t i : ℕ) (time : ℤ) (d : Doubt) : Type 0 where
  pub same : row_onto L t i time d.old ≡ row_onto M t i time d.new
  pub calm : IfSome (row_onto L t i time d.old) (LeadsCalm L M)

-- the same transfers, all of which lead to trips with the same events
pub record AreSettled (L M : LinesData) (olds news : List Transfer) : Type 0 where
  pub same : olds ≡ news
  pub calm : All (LeadsCalm L M) olds

-- where these doubts are settled, so are the transfers onto the lines of both
pub record AreDoubts (L M : LinesData) (olds news : List Boarding) (ds : List Doubt) : Type 0
  where
    pub each : All (IsDoubt L M) ds
    pub settled : (t i : ℕ) (time : ℤ) → All (IsSettled L M t i time) ds →
        AreSettled L M (rows_onto L t i time olds) (rows_onto M t i time news)

-- these are the doubts of so many boardings of each of two rows
pub record ArePassed (L M : LinesData) (olds news : List Boarding) (ds : List Doubt)
    (passed : ℕ × ℕ) : Type 0 where
  pub old : passed.0 ≤ length olds
  pub new : passed.1 ≤ length news
  pub doubts : AreDoubts L M (take passed.0 olds) (take passed.1 news) ds

-- the same of all lines at stop q
pub record AreDoubtsAt (L M : LinesData) (q : ℕ) (ds : List Doubt) : Type 0 where
  pub each : All (IsDoubt L M) ds
  pub settled : (t i : ℕ) (time : ℤ) → All (IsSettled L M t i time) ds →
      AreSettled L M (rows_to L t i q time) (rows_to M t i q time)

-- the doubts of each stop
pub record AreAllDoubts (L M : LinesData) (rows : List (List Doubt)) : Type 0 where
  pub long : length rows ≡ length L.table.stops
  pub at : (q : ℕ) → q < length L.table.stops → AreDoubtsAt L M q (slice_index_or rows q [])

-- each stop is marked from which a change leads to one with doubts
pub record MarksNear (T : TimetableData) (rows : List (List Doubt)) (marks : List Bool) : Type 0
  where
    pub long : length marks ≡ length T.stops
    pub far : (p q : ℕ) → p < length T.stops → slice_index_or marks p false ≡ false →
        IsSome (change T p q) → slice_index_or rows q [] ≡ []

-- each stop with doubts is marked
pub record MarksDoubts (rows : List (List Doubt)) (marks : List Bool) : Type 0 where
  pub long : length marks ≡ length rows
  pub plain : (q : ℕ) → slice_index_or marks q false ≡ false → slice_index_or rows q [] ≡ []

-- one of these events is at a marked stop
abbrev pub calls_near : List Bool → List Event → Bool
calls_near near events = list_any (λ e. slice_index_or near e.stop false) events

-- each line has a mark where it calls at a marked stop
pub record MarksLines (L : LinesData) (near marks : List Bool) : Type 0 where
  pub long : length marks ≡ length L.lines
  pub told : (l : ℕ) → l < length L.lines → slice_index_or marks l false
      ≡ calls_near near (line_events L.table (slice_index_or L.lines l []))

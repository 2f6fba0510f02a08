-- What the lines of a timetable are, as plain lists.
use Rattle.std.specs.Prelude.{ℕ, List}
use Rattle.tb_base.specs.TimetableData.{TimetableData}

-- A timetable, and the trips of each of its lines, in order. The number of a line is its place in
-- the list.
pub record LinesData : Type 0 where
  pub table : TimetableData
  pub lines : List (List ℕ)

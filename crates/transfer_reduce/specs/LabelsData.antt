-- Labels, as contracts see them, and what a reduction relies on.
use Rattle.std.specs.Prelude.{◌≡◌, ℕ, ◌<◌, List, [], length, ℤ, Option, slice_index_or}
use Rattle.tb_base.specs.declared.table.Path.{Path}
use Rattle.tb_base.specs.Soundness.{IsSound}
use Rattle.tb_base.specs.TimetableData.{TimetableData}
use Rattle.transfer_pack.specs.TurnedPaths.{turned_into}

-- the timetable, and for each of its stops the earliest arrival that was offered there, if any was
pub record LabelsData : Type 0 where
  pub table : TimetableData
  pub times : List (Option ℤ)

-- one time a stop of the timetable, and for each stop the footpaths that lead to it
pub record AreLabels (T : TimetableData) (into : List (List Path)) (times : List (Option ℤ)) :
    Type 0 where
  pub sound : IsSound T
  pub long : length times ≡ length T.stops
  pub rows : length into ≡ length T.stops
  pub turned : (q : ℕ) → q < length T.stops →
      slice_index_or into q [] ≡ turned_into T.footpaths.paths q (length T.stops)

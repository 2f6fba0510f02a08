-- The kept transfers of an amended timetable, trip by trip.
use Rattle.std.specs.Prelude.{◌≡◌, ℕ, Bool, List, [], length, filter, map, if◌then◌else◌}
use Rattle.std.specs.List.{range_with_len}
use Rattle.tb_base.specs.declared.transfer.Transfer.{Transfer}
use Rattle.tb_base.specs.Transfers.{kept_hops, numbers_below, transfers_of}
use Rattle.line_split.specs.LinesData.{LinesData}
use Rattle.late_edit.specs.Touched.{is_touched}
use Rattle.reduce_workers.specs.Reductions.{count_from}
use Rattle.edition_store.specs.Editions.{EditionData}

-- the timetable of an edition with its lines
abbrev pub edition_lines : EditionData → LinesData
edition_lines e = record { table = e.table; lines = e.lines }

-- the kept transfers of a trip of an amended timetable that is touched, and none of any other
abbrev pub touched_row : LinesData → LinesData → ℕ → List Transfer
touched_row before after t =
    if is_touched before after t
    then transfers_of after.table (kept_hops after.table after.lines t) t
    else []

-- transfers, one list a trip, which trips are touched, how many transfers there are, and how many
-- of the trips are touched
pub record RowsData : Type 0 where
  pub rows : List (List Transfer)
  pub touched : List Bool
  pub kept : ℕ
  pub redone : ℕ

-- of the first n trips of a timetable that was another one before: the kept transfers of those that
-- are touched, which they are, how many transfers all of them keep, and how many are touched
pub record AreKeptRows (before after : LinesData) (n : ℕ) (r : RowsData) : Type 0 where
  pub rows : r.rows ≡ map (touched_row before after) (range_with_len 0 n)
  pub touched : r.touched ≡ map (is_touched before after) (range_with_len 0 n)
  pub kept : r.kept ≡ count_from after.table (kept_hops after.table after.lines) 0 n
  pub redone : r.redone ≡ length (filter (is_touched before after) (numbers_below n))

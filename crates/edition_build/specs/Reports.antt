-- The report on what is built of a timetable: its lines, its candidate transfers and its kept
-- transfers.
use Rattle.std.specs.Prelude.{◌≡◌, ℕ, List, Bool, length, if◌then◌else◌}
use Rattle.tb_base.specs.Lines.{AreLines}
use Rattle.tb_base.specs.TimetableData.{TimetableData}
use Rattle.reduce_workers.specs.Reductions.{ReducedData, reduced}
use Rattle.answer_json.specs.Shown.{shown_build, shown_build_list}
use Rattle.answer_text.specs.declared.builds.BuildCounts.{BuildCounts}

-- how many lines there are, and the counts of the reduction
abbrev pub counts_of : List (List ℕ) → ReducedData → BuildCounts
counts_of lines r = record {
  lines = length lines;
  generated = r.generated;
  after_uturn = r.after_uturn;
  kept = r.kept;
}

-- the sizes and the counts, and if asked for, the kept transfers, as JSON or as a text
abbrev pub report : Bool → TimetableData → List (List ℕ) → Bool → List ℕ
report json T lines list =
    let r = reduced T lines in
    if list then shown_build_list json T (counts_of lines r) r.rows
    else shown_build json T (counts_of lines r)

-- this is the report over the timetable's lines, of which there is one list
pub record IsReport (json : Bool) (T : TimetableData) (list : Bool) (bytes : List ℕ) : Type 0 where
  pub lines : List (List ℕ)
  pub are_lines : AreLines T lines
  pub text : bytes ≡ report json T lines list

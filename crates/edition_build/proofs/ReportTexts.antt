-- Texts of the counts and transfers that were made are the report.
use Rattle.std.proofs.Common.{◌≡◌, ◌∙◌, ℕ, List, Bool, true, false, sym, ap}
use Rattle.tb_base.specs.declared.transfer.Transfer.{Transfer}
use Rattle.tb_base.specs.TimetableData.{TimetableData}
use Rattle.reduce_workers.specs.Reductions.{ReducedData, reduced}
use Rattle.answer_json.specs.Shown.{shown_build, shown_build_list}
use Rattle.answer_text.specs.declared.builds.BuildCounts.{BuildCounts}
use Rattle.edition_build.specs.Reports.{counts_of, report}

module _ (json : Bool) (T : TimetableData) (lines : List (List ℕ)) (list : Bool) (made : ReducedData) (same : made ≡ reduced T lines) (counts : BuildCounts) (counted : counts ≡ counts_of lines made) where
  pub report_listed : (rows : List (List Transfer)) → rows ≡ made.rows → list ≡ true → shown_build_list json T counts rows ≡ report json T lines list
  report_listed rows all on =
      ap (λ c. shown_build_list json T c rows) counted ∙ ap (shown_build_list json T (counts_of lines made)) all
      ∙ ap (λ (r : ReducedData). shown_build_list json T (counts_of lines r) r.rows) same ∙ sym (ap (report json T lines) on)

  pub report_unlisted : list ≡ false → shown_build json T counts ≡ report json T lines list
  report_unlisted off = ap (shown_build json T) counted ∙ ap (λ r. shown_build json T (counts_of lines r)) same ∙ sym (ap (report json T lines) off)

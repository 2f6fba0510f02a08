-- What became of the items of a plan, as lines of text.
use Rattle.std.specs.Prelude.{ℕ, List, [], ◌∷◌, ◌++◌, codes}
use Rattle.std.specs.Fmt.{decimal}
use Rattle.gtfs_rows.specs.declared.fault.FeedFault.{FeedFault}
use Rattle.answer_text.specs.Faults.{fault_text}
use Rattle.late_edit.specs.declared.late.LateFault.{LateFault}
use Rattle.edition_build.specs.declared.plan.Outcome.{Outcome}
use Rattle.edition_build.specs.declared.plan.Outcome.TheVariants.{Amended, LateRefused, Published, Refused}
use Rattle.edition_build.specs.LateFaults.{late_fault_text}
use Rattle.edition_build.specs.Plans.{ItemData}

-- `edition N WORD trips N lines N kept N`
abbrev pub published_text : List ℕ → ℕ → ℕ → ℕ → ℕ → List ℕ
published_text word number trips lines kept =
    codes "edition " ++ decimal number ++ codes " " ++ word ++ codes " trips " ++ decimal trips
    ++ codes " lines " ++ decimal lines ++ codes " kept " ++ decimal kept ++ codes "\n"

-- `refused WORD FAULT`
abbrev pub refused_text : List ℕ → FeedFault → List ℕ
refused_text word fault = codes "refused " ++ word ++ codes " " ++ fault_text fault ++ codes "\n"

-- `edition N WORD touched N kept N`
abbrev pub amended_text : List ℕ → ℕ → ℕ → ℕ → List ℕ
amended_text word number touched kept =
    codes "edition " ++ decimal number ++ codes " " ++ word ++ codes " touched " ++ decimal touched
    ++ codes " kept " ++ decimal kept ++ codes "\n"

-- `refused WORD FAULT`, of a file that amends a day
abbrev pub late_refused_text : List ℕ → LateFault → List ℕ
late_refused_text word fault =
    codes "refused " ++ word ++ codes " " ++ late_fault_text fault ++ codes "\n"

-- the line of the outcome of the item of a word
abbrev pub outcome_text : List ℕ → Outcome → List ℕ
outcome_text word (Published number trips lines kept) =
    published_text word number trips lines kept
outcome_text word (Refused fault) = refused_text word fault
outcome_text word (Amended number touched kept) = amended_text word number touched kept
outcome_text word (LateRefused fault) = late_refused_text word fault

-- one line for each item, in order
abbrev pub outcome_lines : (List ℕ → Outcome → List ℕ) → List ItemData → List Outcome → List ℕ
outcome_lines line_of [] outcomes = []
outcome_lines line_of (item ∷ items) [] = []
outcome_lines line_of (item ∷ items) (outcome ∷ outcomes) =
    line_of item.word outcome ++ outcome_lines line_of items outcomes

abbrev pub outcomes_text : List ItemData → List Outcome → List ℕ
outcomes_text items outcomes = outcome_lines outcome_text items outcomes

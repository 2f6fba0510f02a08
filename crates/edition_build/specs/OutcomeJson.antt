-- What became of the items of a plan, as lines of JSON.
use Rattle.std.specs.Prelude.{ℕ, List, ◌++◌, codes}
use Rattle.gtfs_rows.specs.declared.fault.FeedFault.{FeedFault}
use Rattle.answer_json.specs.Faults.{fault_json}
use Rattle.answer_json.specs.Frames.{count_json, string_json}
use Rattle.late_edit.specs.declared.late.LateFault.{LateFault}
use Rattle.edition_build.specs.declared.plan.Outcome.{Outcome}
use Rattle.edition_build.specs.declared.plan.Outcome.TheVariants.{Amended, LateRefused, Published, Refused}
use Rattle.edition_build.specs.LateFaults.{late_fault_json}
use Rattle.edition_build.specs.OutcomeTexts.{outcome_lines}
use Rattle.edition_build.specs.Plans.{ItemData}

-- `{"day":WORD,"edition":N,"trips":N,"lines":N,"kept":N}`
unfoldable pub published_json : List ℕ → ℕ → ℕ → ℕ → ℕ → List ℕ
published_json word number trips lines kept =
    codes "{\"day\":" ++ string_json word ++ count_json (codes "edition") number
    ++ count_json (codes "trips") trips ++ count_json (codes "lines") lines
    ++ count_json (codes "kept") kept ++ codes "}\n"

-- `{"day":WORD,"fault":FAULT}`
abbrev pub refused_json : List ℕ → FeedFault → List ℕ
refused_json word fault =
    codes "{\"day\":" ++ string_json word ++ codes ",\"fault\":" ++ fault_json fault ++ codes "}\n"

-- `{"day":WORD,"edition":N,"touched":N,"kept":N}`
unfoldable pub amended_json : List ℕ → ℕ → ℕ → ℕ → List ℕ
amended_json word number touched kept =
    codes "{\"day\":" ++ string_json word ++ count_json (codes "edition") number
    ++ count_json (codes "touched") touched ++ count_json (codes "kept") kept ++ codes "}\n"

-- `{"day":WORD,"fault":FAULT}`, of a file that amends a day
abbrev pub late_refused_json : List ℕ → LateFault → List ℕ
late_refused_json word fault =
    codes "{\"day\":" ++ string_json word ++ codes ",\"fault\":" ++ late_fault_json fault
    ++ codes "}\n"

-- the line of the outcome of the item of a word
abbrev pub outcome_json : List ℕ → Outcome → List ℕ
outcome_json word (Published number trips lines kept) =
    published_json word number trips lines kept
outcome_json word (Refused fault) = refused_json word fault
outcome_json word (Amended number touched kept) = amended_json word number touched kept
outcome_json word (LateRefused fault) = late_refused_json word fault

-- one line for each item, in order
abbrev pub outcomes_json : List ItemData → List Outcome → List ℕ
outcomes_json items outcomes = outcome_lines outcome_json items outcomes

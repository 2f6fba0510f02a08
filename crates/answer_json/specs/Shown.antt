-- What is shown as JSON, or as a text.
use Rattle.std.specs.Prelude.{ℕ, ℤ, List, Bool, Option, if◌then◌else◌}
use Rattle.tb_base.specs.TimetableData.{TimetableData}
use Rattle.tb_base.specs.BestValues.{ChoiceData}
use Rattle.tb_base.specs.declared.transfer.Transfer.{Transfer}
use Rattle.answer_text.specs.Builds.{build_list_text, build_text}
use Rattle.answer_text.specs.Journeys.{arrival_text, choices_text, unknown_text}
use Rattle.answer_text.specs.declared.builds.BuildCounts.{BuildCounts}
use Rattle.answer_json.specs.Builds.{build_json, build_list_json}
use Rattle.answer_json.specs.Journeys.{arrival_json, choices_json, unknown_json}
use Rattle.answer_json.specs.declared.frame.Frame.TheVariants as frame

abbrev pub shown_arrival : Bool → Option ℤ → List ℕ
shown_arrival json time = if json then arrival_json time else arrival_text time

abbrev pub shown_unknown : Bool → List ℕ → List ℕ
shown_unknown json name = if json then unknown_json name else unknown_text name

abbrev pub shown_choices : Bool → TimetableData → List ChoiceData → List ℕ
shown_choices json T choices =
    if json then choices_json frame.Lines T choices else choices_text T choices

abbrev pub shown_build : Bool → TimetableData → BuildCounts → List ℕ
shown_build json T c = if json then build_json T c else build_text T c

abbrev pub shown_build_list : Bool → TimetableData → BuildCounts → List (List Transfer) → List ℕ
shown_build_list json T c lists =
    if json then build_list_json T c lists else build_list_text T c lists

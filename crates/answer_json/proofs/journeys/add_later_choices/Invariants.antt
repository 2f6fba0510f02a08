use Rattle.std.proofs.Common.{◌≡◌, ◌++◌, take}
use Rattle.answer_json.specs.Frames.{followers}
use Rattle.answer_json.specs.Journeys.{choice_json}
use Rattle.answer_json.proofs.journeys.add_later_choices.Given as goal

abbrev pub invariant-loop-choice : goal.invariant-loop-choice
invariant-loop-choice l = l.text ≡ l.fn.text ++ followers l.frame (choice_json l.table) (take l.choice-index l.choices)

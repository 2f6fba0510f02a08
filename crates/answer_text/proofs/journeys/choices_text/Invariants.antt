use Rattle.std.proofs.Common.{◌≡◌, ◌++◌, take, flat_map}
use Rattle.answer_text.specs.Journeys.{choice_text}
use Rattle.answer_text.proofs.journeys.choices_text.Given as goal

abbrev pub invariant-loop-choice : goal.invariant-loop-choice
invariant-loop-choice l = l.text ≡ l.initial.text ++ flat_map (choice_text l.table) (take l.choice-index l.choices)

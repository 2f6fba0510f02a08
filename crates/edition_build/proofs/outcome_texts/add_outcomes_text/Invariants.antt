use Rattle.std.proofs.Common.{◌≡◌, ◌++◌, take}
use Rattle.edition_build.specs.OutcomeTexts.{outcomes_text}
use Rattle.edition_build.proofs.outcome_texts.add_outcomes_text.Given as goal

abbrev pub invariant-loop-i : goal.invariant-loop-i
invariant-loop-i l = l.text ≡ l.fn.text ++ outcomes_text (take l.i l.plan) (take l.i l.outcomes)

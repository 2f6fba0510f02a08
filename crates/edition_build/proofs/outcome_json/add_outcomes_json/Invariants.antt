use Rattle.std.proofs.Common.{◌≡◌, ◌++◌, take}
use Rattle.edition_build.specs.OutcomeJson.{outcomes_json}
use Rattle.edition_build.proofs.outcome_json.add_outcomes_json.Given as goal

abbrev pub invariant-loop-i : goal.invariant-loop-i
invariant-loop-i l = l.text ≡ l.fn.text ++ outcomes_json (take l.i l.plan) (take l.i l.outcomes)

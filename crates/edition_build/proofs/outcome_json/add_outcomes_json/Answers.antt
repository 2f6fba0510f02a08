use Rattle.std.proofs.Common.{◌∙◌, ap, get_or, rules}
use Rattle.edition_build.specs.Plans.{ItemData}
use Rattle.edition_build.specs.OutcomeJson.{outcome_json}
use Rattle.edition_build.proofs.OutcomeLines.{outcomes_told}
use Rattle.edition_build.proofs.outcome_json.add_outcomes_json.Goals as goal

pub loop-i-preserved : goal.loop-i-preserved
loop-i-preserved c =
    let item = c.index-plan-i.result in
    let outcome = c.index-outcomes-i.result in
    outcomes_told outcome_json c.args.plan.now c.args.outcomes.now c.loop-i.i item outcome c.args.text.now c.loop-i.text c.add_outcome_json.new.text _
    c.requires c.loop-i-test.true c.loop-i.invariant
    (ap (λ (k : ItemData). outcome_json k.word outcome) c.index-plan-i.is ∙ ap (outcome_json (ItemData.word (get_or c.args.plan.now c.loop-i.i item))) c.index-outcomes-i.is)
    (search rules)

use Rattle.std.proofs.Common.{rules}
use Rattle.std.specs.Option.{option_copied}
use Rattle.tb_base.specs.JourneyRules.{KeepsRule}
use Rattle.journey_read.proofs.Passes.{before_last}
use Rattle.journey_read.proofs.leg_rules.broken_rule.Goals as goal

pub returns-then-not-ends_at_target-clause-rule : goal.returns-then-not-ends_at_target-clause-rule
returns-then-not-ends_at_target-clause-rule c = (
  before_last (λ r. KeepsRule c.args.table.now c.args.query.now (option_copied c.args.previous) (option_copied c.args.earlier) c.args.leg.now c.args.after.now r)
      (search rules) (search rules) (search rules) (search rules) (search rules) (search rules) (search rules) (search rules) (search rules),
  search rules,
)

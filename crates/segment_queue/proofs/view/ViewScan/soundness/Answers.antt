use Rattle.std.proofs.Common.{subst}
use Rattle.tb_base.specs.Lines.{AreDividedInto}
use Rattle.segment_queue.proofs.view.ViewScan.soundness.Goals as goal

pub returns-clause-divided : goal.returns-clause-divided
returns-clause-divided c =
    rw (← c.self.view_is) (subst (λ T. AreDividedInto T c.self.inside.lines.now.lines) c.self.invariant.0 c.soundness.ensures.divided)

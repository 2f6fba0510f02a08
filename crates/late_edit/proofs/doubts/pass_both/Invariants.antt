use Rattle.std.proofs.Common.{◌+◌, ◌-◌, length}
use Rattle.late_edit.specs.Doubts.{ArePassed}
use Rattle.late_edit.proofs.doubts.pass_both.Given as goal

abbrev pub invariant-loop-passed : goal.invariant-loop-passed
invariant-loop-passed l = ArePassed l.compared.before l.compared.after l.old l.new l.doubts.items l.passed

abbrev pub decreases-loop-passed : goal.decreases-loop-passed
decreases-loop-passed l = (length l.old + length l.new) - (l.passed.0 + l.passed.1)

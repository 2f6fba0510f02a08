use Rattle.std.proofs.Common.{◌≡◌, drop}
use Rattle.tb_base.specs.Lines.{may_follow}
use Rattle.line_split.proofs.events.may_follow.Given as goal

abbrev pub invariant-loop-i : goal.invariant-loop-i
invariant-loop-i l = may_follow l.first l.second ≡ may_follow (drop l.i l.first) (drop l.i l.second)

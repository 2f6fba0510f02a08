use Rattle.std.proofs.Common.{take}
use Rattle.late_edit.specs.Doubts.{AreDoubts}
use Rattle.late_edit.proofs.doubts.pass_rest.Given as goal

abbrev pub invariant-loop-i : goal.invariant-loop-i
invariant-loop-i l = AreDoubts l.compared.before l.compared.after (take l.i l.old) (take l.passed.1 l.new) l.doubts.items

abbrev pub invariant-loop-j : goal.invariant-loop-j
invariant-loop-j l = AreDoubts l.compared.before l.compared.after l.old (take l.j l.new) l.doubts.items

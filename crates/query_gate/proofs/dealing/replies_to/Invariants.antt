use Rattle.std.proofs.Common.{take}
use Rattle.query_gate.specs.Dealing.{AreReplies}
use Rattle.query_gate.proofs.dealing.replies_to.Given as goal

abbrev pub invariant-loop-i : goal.invariant-loop-i
invariant-loop-i g l = AreReplies (g.O.Office.right l.office) (take l.i l.requests) l.replies.items

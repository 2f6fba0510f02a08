use Rattle.std.proofs.Common.{take}
use Rattle.std.specs.Prelude.{All}
use Rattle.late_edit.specs.Doubts.{IsSettled}
use Rattle.late_edit.proofs.settled.are_settled.Given as goal

abbrev pub invariant-loop-doubt : goal.invariant-loop-doubt
invariant-loop-doubt l = All (IsSettled l.compared.before l.compared.after l.from.trip l.from.at l.from.time) (take l.doubt-index l.doubts)

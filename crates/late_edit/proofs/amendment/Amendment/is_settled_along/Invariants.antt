use Rattle.std.proofs.Common.{take, pos, ◌+ℤ◌}
use Rattle.std.specs.Prelude.{All}
use Rattle.late_edit.specs.Doubts.{AreSettled, rows_to}
use Rattle.late_edit.proofs.amendment.Amendment.is_settled_along.Given as goal

abbrev pub invariant-loop-path : goal.invariant-loop-path
invariant-loop-path l =
    All (λ f. AreSettled l.self.before l.self.after (rows_to l.self.before l.trip l.at f.to (l.event.arr +ℤ pos f.secs)) (rows_to l.self.after l.trip l.at f.to (l.event.arr +ℤ pos f.secs))) (take l.path-index l.paths)

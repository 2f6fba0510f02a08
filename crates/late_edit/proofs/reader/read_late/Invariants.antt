use Rattle.std.proofs.Common.{length}
use Rattle.late_edit.proofs.Reading.{IsRead}
use Rattle.late_edit.proofs.reader.read_late.Given as goal

abbrev pub invariant-loop-cut : goal.invariant-loop-cut
invariant-loop-cut l = IsRead l.fn.bytes l.updates.items l.line l.text

abbrev pub decreases-loop-cut : goal.decreases-loop-cut
decreases-loop-cut l = length l.text

use Rattle.std.proofs.Common.{pos, ◌+ℤ◌}
use Rattle.query_gate.proofs.Gathering.{AreGathered, left_until}
use Rattle.query_gate.proofs.leaving.gather_line.Given as goal

abbrev pub invariant-loop-next : goal.invariant-loop-next
invariant-loop-next g l = AreGathered (g.S.Scan.net l.scan) l.window l.path l.berth l.initial.times.items l.times.items l.next

abbrev pub decreases-loop-next : goal.decreases-loop-next
decreases-loop-next g l = left_until (l.window.last +ℤ pos l.path.secs) l.next

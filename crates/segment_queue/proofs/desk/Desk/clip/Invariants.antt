use Rattle.std.proofs.Common.{◌≡◌, ◌≤◌, length}
use Rattle.segment_queue.specs.Clipped.{AreClipped}
use Rattle.segment_queue.proofs.desk.Desk.clip.Given as goal

abbrev pub invariant-loop-n : goal.invariant-loop-n
invariant-loop-n g l = record {
  long : length l.ends ≡ length l.fn.ends;
  onward : l.from ≤ l.n;
  clipped : AreClipped (g.S.Scan.net l.scan) l.self.marks l.self.segments l.from l.n l.ends;
}

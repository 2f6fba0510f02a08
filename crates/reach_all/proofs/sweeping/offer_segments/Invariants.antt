use Rattle.reach_all.specs.Swept.{AreRidden}
use Rattle.reach_all.proofs.sweeping.offer_segments.Given as goal

abbrev pub invariant-loop-n : goal.invariant-loop-n
invariant-loop-n g l = AreRidden (g.S.Scan.net l.scan).table l.query l.fn.rides l.desk l.n l.arrivals

use Rattle.reach_all.specs.Swept.{IsOfferedUpTo}
use Rattle.reach_all.proofs.sweeping.offer_segment.Given as goal

abbrev pub invariant-loop-before : goal.invariant-loop-before
invariant-loop-before g l = IsOfferedUpTo (g.S.Scan.net l.scan).table l.desk l.fn.n l.before l.fn.arrivals l.arrivals

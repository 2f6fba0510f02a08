use Rattle.reach_all.specs.Spreading.{AreStartsOf}
use Rattle.reach_all.proofs.walking.walk_all.Given as goal

abbrev pub invariant-loop-origin : goal.invariant-loop-origin
invariant-loop-origin g l = AreStartsOf (g.S.Scan.net l.scan).table l.query.from l.query.leave l.origin-index l.arrivals

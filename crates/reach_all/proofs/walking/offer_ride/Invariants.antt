use Rattle.reach_all.specs.Arriving.{AreOfferedBy}
use Rattle.reach_all.proofs.walking.offer_ride.Given as goal

abbrev pub invariant-loop-path : goal.invariant-loop-path
invariant-loop-path g l = AreOfferedBy (g.S.Scan.net l.scan).table l.fn.stop l.value l.path-items l.path-index l.fn.soonest l.soonest

use Rattle.std.proofs.Common.{subst, arith}
use Rattle.reach_all.specs.Swept.{AreRidden}
use Rattle.reach_all.proofs.sweeping.offer_segments.Goals as goal

pub returns : goal.returns
returns g c = subst (λ n. AreRidden (g.S.Scan.net c.args.scan.now).table c.args.query.now c.args.rides c.args.desk.now n c.loop-n.arrivals) (omega (arith, c.loop-n-test.false, c.requires.all, c.requires.room, c.requires.from)) c.loop-n.invariant

use Rattle.std.proofs.Common.{◌≡◌, length, arith}
use Rattle.service_trips.proofs.ChainSteps.{chains_next}
use Rattle.service_trips.proofs.chains.TripChains.new.Goals as goal

pub loop-i-preserved : goal.loop-i-preserved
loop-i-preserved c =
    chains_next c.args.rows.now c.loop-i.i c.args.trips c.index.result.now c.loop-i.last.items c.loop-i.earlier.items c.push.new.self.items c.index-rows-i.result
    c.loop-i-test.true (c.requires.trips c.loop-i.i c.index-rows-i.result c.loop-i-test.true) c.index.ensures c.in_ok-push.ensures.items c.loop-i.invariant

pub returns : goal.returns
returns c = let all : c.loop-i.i ≡ length c.args.rows.now = omega arith in rw (← all) c.loop-i.invariant

use Rattle.std.proofs.Common.{arith}
use Rattle.journey_read.proofs.Adding.{all_taken, next_leg, none_taken, one_taken}
use Rattle.journey_read.proofs.verdict.value_of.Goals as goal

pub loop-leg-init : goal.loop-leg-init
loop-leg-init c = rw c.without_legs-value.ensures (none_taken c.args.table.now c.args.query.now.leave c.args.legs.now c.requires.legs)

pub with_leg-value-requires : goal.with_leg-value-requires
with_leg-value-requires c =
    let value = c.loop-leg.value in
    let next = next_leg c.args.table.now c.args.query.now.leave c.args.legs.now c.loop-leg.leg-index value.arrive value.rides c.leg-item.result c.loop-leg-test.true c.leg-item.is c.loop-leg.invariant in
    record { leg = next.0; time = next.1; rides = omega (arith, c.loop-leg.invariant.count, c.loop-leg-test.true, c.requires.count) }

pub loop-leg-preserved : goal.loop-leg-preserved
loop-leg-preserved c =
    let value = c.loop-leg.value in
    one_taken c.args.table.now c.args.query.now.leave c.args.legs.now c.loop-leg.leg-index value.arrive value.rides c.leg-item.result c.loop-leg-test.true c.leg-item.is c.loop-leg.invariant
    c.with_leg-value.result.arrive c.with_leg-value.result.rides c.with_leg-value.ensures.arrive c.with_leg-value.ensures.rides

pub returns : goal.returns
returns c = all_taken c.args.table.now c.args.query.now.leave c.args.legs.now c.loop-leg.leg-index c.loop-leg.value.arrive c.loop-leg.value.rides c.loop-leg-test.false c.loop-leg.invariant

use Rattle.std.proofs.Common.{arith, ◌∙◌, refl}
use Rattle.earliest_query.proofs.search.Search.ride_all.Goals as goal

pub loop-from-preserved : goal.loop-from-preserved
loop-from-preserved g c = record {
  ridden = c.ride_next-from.ensures.ridden;
  met = c.ride_next-from.ensures.met;
  ready = λ later h. c.ride_next-from.ensures.ready later (omega (arith, h));
  room = c.ride_next-from.ensures.room ∙ c.loop-from.invariant.room;
  most = c.ride_next-from.ensures.most;
  steps = omega (arith, c.loop-from.invariant.steps, c.ride_next-from.ensures.steps);
}

pub loop-from-init : goal.loop-from-init
loop-from-init g c = record {
  ridden = c.requires.ridden;
  met = λ n i below covers. absurd (omega (arith, below));
  ready = c.requires.ready;
  room = refl;
  most = omega arith;
  steps = omega arith;
}

pub returns-clause-met : goal.returns-clause-met
returns-clause-met g c = λ n i inside covers. c.loop-from.invariant.met n i (omega (arith, inside, c.loop-from-test.false, c.count.ensures.result)) covers

pub returns-clause-ready : goal.returns-clause-ready
returns-clause-ready g c = (c.loop-from.round, c.loop-from.invariant.ready c.loop-from.round (omega arith))

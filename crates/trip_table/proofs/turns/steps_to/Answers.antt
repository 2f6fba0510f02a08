use Rattle.std.proofs.Common.{◌≤◌, arith}
use Rattle.trip_table.proofs.WalkSteps.{enough_steps, far_within, steps_few, twice_as_many}
use Rattle.trip_table.proofs.turns.steps_to.Goals as goal

pub twice_as_many-requires-clause-within : goal.twice_as_many-requires-clause-within
twice_as_many-requires-clause-within c =
    rw c.as_slice.ensures.value (far_within c.args.bases.now c.loop-reach.far.items c.loop-reach.steps.items c.args.last c.loop-reach.reach (λ i lt. c.requires.within i 0 lt) c.loop-reach.invariant.so_far)

pub twice_as_many-requires-clause-few : goal.twice_as_many-requires-clause-few
twice_as_many-requires-clause-few c =
    let reach : c.loop-reach.reach ≤ 100000 = omega arith in
    rw c.as_slice-in-loop-reach.ensures.value (steps_few c.args.bases.now c.loop-reach.far.items c.loop-reach.steps.items c.args.last c.loop-reach.reach 100000 c.loop-reach.invariant.so_far reach)

pub twice_as_far-requires : goal.twice_as_far-requires
twice_as_far-requires c =
    rw c.as_slice-in-loop-reach-2.ensures.value (far_within c.args.bases.now c.loop-reach.far.items c.loop-reach.steps.items c.args.last c.loop-reach.reach (λ i lt. c.requires.within i 0 lt) c.loop-reach.invariant.so_far)

pub loop-reach-preserved : goal.loop-reach-preserved
loop-reach-preserved c =
    let inv = c.loop-reach.invariant in
    let some = inv.some in
    let more = rw (c.as_slice.ensures.value, c.as_slice-in-loop-reach.ensures.value) at c.in_ok-steps-2.ensures.more in
    let long = rw c.as_slice.ensures.value at c.in_ok-steps-2.ensures.long in
    let farther = rw c.as_slice-in-loop-reach-2.ensures.value at c.in_ok-far-2.ensures in
    record {
      some = omega (arith, some);
      within = omega arith;
      so_far = twice_as_many c.args.bases.now c.loop-reach.far.items c.loop-reach.steps.items c.in_ok-far-2.far.items c.in_ok-steps-2.steps.items c.args.last c.loop-reach.reach c.requires.stays (λ i lt. c.requires.within i 0 lt) inv.so_far farther long more;
    }

pub returns-clause-steps : goal.returns-clause-steps
returns-clause-steps c i lt =
    let enough : c.args.last ≤ c.loop-reach.reach = omega arith in
    enough_steps c.args.bases.now c.loop-reach.far.items c.loop-reach.steps.items c.args.last c.loop-reach.reach c.args.last i c.loop-reach.invariant.so_far enough lt

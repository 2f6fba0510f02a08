use Rattle.std.proofs.Common.{◌∙◌, ◌<◌, ap, length, get_or, arith}
use Rattle.trip_table.specs.Turns.{bases_of}
use Rattle.trip_table.proofs.TurnSteps.{bases_within, long_bases, turn_more}
use Rattle.trip_table.proofs.turns.turns_of.Goals as goal

pub steps_to-requires-clause-within : goal.steps_to-requires-clause-within
steps_to-requires-clause-within c = let is = c.as_slice.ensures.value ∙ c.in_ok-bases.ensures in rw is (bases_within c.args.rows.now)

pub turn_at-requires-clause-base : goal.turn_at-requires-clause-base
turn_at-requires-clause-base c =
    let is = c.as_slice.ensures.value ∙ c.in_ok-bases.ensures in
    let long = ap length c.as_slice-in-loop-i.ensures.value ∙ c.in_ok-steps.ensures.long ∙ ap length is in
    let at = c.index.ensures ∙ ap (λ bases. get_or bases c.loop-i.i c.index.result.now) c.in_ok-bases.ensures in
    let many = long_bases c.args.rows.now in
    let below : c.loop-i.i < length (bases_of c.args.rows.now) = omega (arith, many) in
    let within = bases_within c.args.rows.now c.loop-i.i c.index.result.now below in
    omega (arith, long, at, within)

pub loop-i-preserved : goal.loop-i-preserved
loop-i-preserved c =
    let is = c.as_slice.ensures.value ∙ c.in_ok-bases.ensures in
    let at = c.index.ensures ∙ ap (λ bases. get_or bases c.loop-i.i c.index.result.now) c.in_ok-bases.ensures in
    let turn = rw c.as_slice-in-loop-i.ensures.value at c.turn_at.ensures in
    let steps = rw is at c.in_ok-steps.ensures.steps in
    turn_more c.args.rows.now c.loop-i.i c.index.result.now c.turn_at.result c.in_ok-steps.steps.items c.loop-i.turns.items c.push.new.self.items c.loop-i-test.true at steps turn c.loop-i.invariant c.in_ok-push.ensures.items

use Rattle.std.proofs.Common.{◌≡◌, ◌≢◌, ◌<◌, ◌+◌, ◌∙◌, [], length, arith}
use Rattle.std.proofs.lemmas.Grind.{common_steps}
use Rattle.std.proofs.lemmas.Bool.Decides.{nat_tests}
use Rattle.tb_base.specs.KeyPlaces.{places_of}
use Rattle.trip_table.specs.LeftFeed.{leave_orphans}
use Rattle.trip_table.proofs.StopsRight.{apart_by}
use Rattle.trip_table.proofs.TurnRows.{first_turn, no_place, places_within, some_places, turns_within}
use Rattle.trip_table.proofs.left_stops.tell_turns.Goals as goal

pub by_key-requires-clause-keys : goal.by_key-requires-clause-keys
by_key-requires-clause-keys c = turns_within c.args.rows.now c.args.turns.now c.requires.turns

pub loop-turn-init : goal.loop-turn-init
loop-turn-init c = first_turn c.args.told.now.items c.args.rows.now

pub returns-then-is_empty : goal.returns-then-is_empty
returns-then-is_empty c =
    let rows = c.args.rows.now in
    let turn = c.loop-turn.turn in
    let within : turn < length rows + 1 = omega arith in
    let places : c.of-places.result.now ≡ places_of c.args.turns.now turn = c.of-places.ensures ∙ c.in_ok-groups.ensures.places turn within in
    let none : length c.of-places.result.now ≡ 0 = grind (arith, nat_tests, common_steps) in
    no_place (leave_orphans (length rows) rows) c.args.told.now.items c.loop-turn.told.items rows c.args.turns.now c.of-places.result.now turn (apart_by [] rows rows c.requires.apart) c.loop-turn-test.true c.requires.turns places none c.loop-turn.invariant

pub tell_orphans-requires : goal.tell_orphans-requires
tell_orphans-requires c =
    let turn = c.loop-turn.turn in
    let within : turn < length c.args.rows.now + 1 = omega arith in
    let places : c.of-places.result.now ≡ places_of c.args.turns.now turn = c.of-places.ensures ∙ c.in_ok-groups.ensures.places turn within in
    rw places (places_within c.args.rows.now c.args.turns.now turn c.requires.turns)

pub loop-turn-preserved : goal.loop-turn-preserved
loop-turn-preserved c =
    let rows = c.args.rows.now in
    let turn = c.loop-turn.turn in
    let within : turn < length rows + 1 = omega arith in
    let places : c.of-places.result.now ≡ places_of c.args.turns.now turn = c.of-places.ensures ∙ c.in_ok-groups.ensures.places turn within in
    let some : length c.of-places.result.now ≢ 0 = grind (arith, nat_tests, common_steps) in
    some_places (leave_orphans (length rows) rows) c.args.told.now.items c.loop-turn.told.items c.tell_orphans.new.told.items rows c.args.turns.now c.of-places.result.now turn (apart_by [] rows rows c.requires.apart) c.loop-turn-test.true c.requires.turns places some
    c.in_ok-tell_orphans.ensures c.loop-turn.invariant

use Rattle.std.proofs.Common.{◌∙◌, ◌++◌, refl, ap, map, get_or}
use Rattle.std.proofs.lemmas.List.{take_all}
use Rattle.trip_table.specs.LeftFeed.{orphan_fault}
use Rattle.trip_table.proofs.TurnRows.{told_more}
use Rattle.trip_table.proofs.left_stops.tell_orphans.Goals as goal

pub loop-place-preserved : goal.loop-place-preserved
loop-place-preserved c other =
    let place = get_or c.args.places.now c.loop-place.place-index 0 in
    told_more c.args.rows.now c.args.places.now c.args.told.now.items c.loop-place.told.items c.push.new.self.items c.loop-place.place-index place c.index-rows-place.result other c.orphan_fault.result
    c.loop-place-test.true refl (c.requires c.loop-place.place-index 0 c.loop-place-test.true) c.index-rows-place.is c.orphan_fault.ensures (c.loop-place.invariant other) c.in_ok-push.ensures.items

pub returns : goal.returns
returns c other =
    c.loop-place.invariant other
    ∙ ap (λ l. c.args.told.now.items ++ map (λ place. orphan_fault (get_or c.args.rows.now place other)) l) (take_all c.loop-place.place-index c.args.places.now c.loop-place-test.false)

use Rattle.service_trips.proofs.ByStarts.{rows_begin, row_more, rows_done}
use Rattle.service_trips.proofs.by_starts.add_by_starts.Goals as goal

pub loop-place-init : goal.loop-place-init
loop-place-init c = rows_begin c.args.day c.args.id.now c.args.ride.now c.args.trips.now.items

pub loop-place-preserved : goal.loop-place-preserved
loop-place-preserved c =
    row_more c.args.day c.args.id.now c.args.ride.now c.args.table.now.rows c.rows-rows.result.now c.places-places.result.now c.loop-place.place-index c.args.trips.now.items c.loop-place.trips.items c.add_starts.new.trips.items
    c.loop-place-test.true c.rows-rows.ensures.rows c.loop-place.invariant c.in_ok-add_starts.ensures

pub returns : goal.returns
returns c =
    rows_done c.args.day c.args.id.now c.args.ride.now c.args.table.now.rows _ c.places-places.result.now c.loop-place.place-index c.args.trips.now.items c.loop-place.trips.items
    c.loop-place-test.false c.places-places.ensures.rows c.loop-place.invariant

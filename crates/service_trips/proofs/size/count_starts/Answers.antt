use Rattle.service_trips.proofs.SizeSteps.{starts_more, starts_all}
use Rattle.service_trips.proofs.size.count_starts.Goals as goal

pub loop-place-preserved : goal.loop-place-preserved
loop-place-preserved c =
    starts_more c.args.span c.args.table.now.rows c.rows-rows.result.now c.places-places.result.now c.loop-place.place-index c.starts_in-starts.result.first c.starts_in-starts.result.count c.loop-place.count _ _
    c.loop-place-test.true c.rows-rows.ensures.rows c.loop-place.invariant c.starts_in-starts.ensures.starts c.saturating_add-count.ensures

pub returns : goal.returns
returns c =
    starts_all c.args.span c.args.table.now.rows _ c.places-places.result.now c.loop-place.place-index c.loop-place.count _ c.loop-place-test.false c.places-places.ensures.rows c.loop-place.invariant

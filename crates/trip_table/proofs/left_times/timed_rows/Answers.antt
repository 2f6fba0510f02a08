use Rattle.std.specs.Prelude.{not}
use Rattle.trip_table.specs.LeftFeed.{is_among}
use Rattle.trip_table.proofs.GoodRows.{good_timed}
use Rattle.trip_table.proofs.LeftTimesSteps.{good_kept}
use Rattle.trip_table.proofs.left_times.timed_rows.Goals as goal

pub broken_trips-requires-clause-trips : goal.broken_trips-requires-clause-trips
broken_trips-requires-clause-trips c =
    let checked = rw c.as_slice.ensures.value at c.in-Ok.ensures in
    let good = good_timed c.args.stops.now c.args.trips.now c.args.apart.rows.items c.requires.few c.requires.times checked in
    rw (c.as_slice-2.ensures.value, c.rows-count.ensures.rows) good.trip

pub broken_trips-requires-clause-sequences : goal.broken_trips-requires-clause-sequences
broken_trips-requires-clause-sequences c =
    let checked = rw c.as_slice.ensures.value at c.in-Ok.ensures in
    let good = good_timed c.args.stops.now c.args.trips.now c.args.apart.rows.items c.requires.few c.requires.times checked in
    rw c.as_slice-2.ensures.value good.sequences

pub leave_trips-requires : goal.leave_trips-requires
leave_trips-requires c =
    let checked = rw c.as_slice.ensures.value at c.in-Ok.ensures in
    let good = good_timed c.args.stops.now c.args.trips.now c.args.apart.rows.items c.requires.few c.requires.times checked in
    rw c.rows-count.ensures.rows good.trip

pub returns-clause-good : goal.returns-clause-good
returns-clause-good c =
    let checked = rw c.as_slice.ensures.value at c.in-Ok.ensures in
    let good = good_timed c.args.stops.now c.args.trips.now c.args.apart.rows.items c.requires.few c.requires.times checked in
    rw c.in_ok-left.ensures.left (good_kept c.args.stops.now c.args.trips.now c.args.apart.rows.items (λ r. not (is_among c.in_ok-broken.broken.items r)) good)

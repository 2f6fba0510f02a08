use Rattle.std.proofs.Common.{◌∙◌, refl, sym, map, Vec, Global}
use Rattle.tb_base.specs.declared.table.Event.{Event}
use Rattle.service_trips.specs.ServiceDay.{FeedTrips}
use Rattle.service_trips.proofs.BeyondRows.{row_beyond, row_within, rows_within, ride_found}
use Rattle.service_trips.proofs.beyond.first_beyond.Goals as goal

pub returns-then-moves_beyond : goal.returns-then-moves_beyond
returns-then-moves_beyond c = λ rows.
    let feed : FeedTrips = record { rows = rows; rides = map (λ (ride : Vec Event Global). ride.items) c.args.rides.now; frequencies = c.args.table.now.rows } in
    let ride = ride_found (λ (ride : Vec Event Global). ride.items) feed c.args.rides.now c.rows-frequency-items.result.now c.loop-frequency.frequency-index c.args.table.now.trips c.index-rides-frequency.result c.deref.result.now
    c.loop-frequency-test.true c.rows-frequency-items.ensures.rows c.rows-frequency-items.ensures.trips c.requires.trips refl c.deref.ensures.value c.index-rides-frequency.is in
    row_beyond feed c.rows-frequency-items.result.now c.loop-frequency.frequency-index c.deref.result.now c.loop-frequency-test.true c.rows-frequency-items.ensures.rows ride (sym c.moves_beyond.ensures ∙ c.if-moves_beyond.true) (c.loop-frequency.invariant rows)

pub loop-frequency-preserved : goal.loop-frequency-preserved
loop-frequency-preserved c = λ rows.
    let feed : FeedTrips = record { rows = rows; rides = map (λ (ride : Vec Event Global). ride.items) c.args.rides.now; frequencies = c.args.table.now.rows } in
    let ride = ride_found (λ (ride : Vec Event Global). ride.items) feed c.args.rides.now c.rows-frequency-items.result.now c.loop-frequency.frequency-index c.args.table.now.trips c.index-rides-frequency.result c.deref.result.now
    c.loop-frequency-test.true c.rows-frequency-items.ensures.rows c.rows-frequency-items.ensures.trips c.requires.trips refl c.deref.ensures.value c.index-rides-frequency.is in
    row_within feed c.rows-frequency-items.result.now c.loop-frequency.frequency-index c.deref.result.now c.loop-frequency-test.true c.rows-frequency-items.ensures.rows ride (sym c.moves_beyond.ensures ∙ c.if-moves_beyond.false) (c.loop-frequency.invariant rows)

pub returns : goal.returns
returns c = λ rows.
    let feed : FeedTrips = record { rows = rows; rides = map (λ (ride : Vec Event Global). ride.items) c.args.rides.now; frequencies = c.args.table.now.rows } in
    rows_within feed c.rows-frequency-items.result.now c.loop-frequency.frequency-index c.loop-frequency-test.false c.rows-frequency-items.ensures.rows (c.loop-frequency.invariant rows)

use Rattle.std.proofs.Common.{◌≡◌, ◌∙◌, ◌++◌, sym, ap, map, get_or, [], arith, Vec, Global}
use Rattle.std.proofs.lemmas.List.{get_or-map}
use Rattle.tb_base.specs.declared.table.Event.{Event}
use Rattle.gtfs_rows.specs.TripsFile.{TripData}
use Rattle.service_trips.specs.ServiceDay.{FeedTrips}
use Rattle.service_trips.proofs.Rows.{none_behind, trips_behind, row_at, id_at, all_trips}
use Rattle.service_trips.proofs.trips.add_trips.Goals as goal

pub loop-trip-init : goal.loop-trip-init
loop-trip-init c = none_behind c.args.day _ _ _

pub loop-trip-preserved : goal.loop-trip-preserved
loop-trip-preserved c =
    let feed : FeedTrips = record { rows = c.args.rows.now; rides = map (λ (ride : Vec Event Global). ride.items) c.args.rides.now; frequencies = c.args.table.now.rows } in
    let rows = c.requires.rows in
    let below = c.loop-trip-test.true in
    let id = ap (λ (t : TripData). t.id) c.row.view_is ∙ id_at feed c.loop-trip.trip c.index-rows-trip.result (omega (arith, rows, below)) c.index-rows-trip.is in
    let ride : c.as_slice-ride.result.now ≡ get_or feed.rides c.loop-trip.trip [] =
    c.as_slice-ride.ensures.value ∙ ap (λ (ride : Vec Event Global). ride.items) c.index-rides-trip.is
    ∙ sym (get_or-map (λ (ride : Vec Event Global). ride.items) c.args.rides.now c.loop-trip.trip c.index-rides-trip.result [] below) in
    trips_behind c.args.day feed c.args.runs.now c.loop-trip.trip c.args.trips.now.items c.loop-trip.trips.items c.add_shown.new.trips.items _ c.loop-trip.invariant c.in_ok-add_shown.ensures
    (row_at c.args.day feed c.args.runs.now c.loop-trip.trip _ c.as_slice-ride.result.now id ride)

pub returns : goal.returns
returns c =
    let feed : FeedTrips = record { rows = c.args.rows.now; rides = map (λ (ride : Vec Event Global). ride.items) c.args.rides.now; frequencies = c.args.table.now.rows } in
    let rows = c.requires.rows in
    let done = c.loop-trip-test.false in
    let most = c.loop-trip.auto.trip-end in
    c.loop-trip.invariant ∙ ap (λ all. c.args.trips.now.items ++ all) (all_trips c.args.day feed c.args.runs.now c.loop-trip.trip (omega (arith, rows, done, most)))

use Rattle.std.proofs.Common.{◌≡◌, ◌∙◌, refl, sym, ap, subst, length-set, map, get_or, [], arith, Vec, Global}
use Rattle.std.proofs.lemmas.List.{get_or-map}
use Rattle.tb_base.specs.declared.days.ServiceDay.TheVariants as day
use Rattle.tb_base.specs.declared.table.Event.{Event}
use Rattle.gtfs_rows.specs.TripsFile.{TripData}
use Rattle.service_trips.specs.ServiceDay.{FeedTrips}
use Rattle.service_trips.specs.ShownRides.{IsRideOrNone}
use Rattle.service_trips.proofs.Rows.{no_trips, trips_added, row_at, id_at, left_at, left_more, all_trips}
use Rattle.service_trips.proofs.trips.own_trips.Goals as goal

pub loop-trip-init : goal.loop-trip-init
loop-trip-init c = record { many = sym c.requires.rows; left = refl; trips = c.new-trips.ensures.items ∙ sym (no_trips day.Date _ _) }

pub add_own-requires-clause-ride : goal.add_own-requires-clause-ride
add_own-requires-clause-ride c =
    let rows = c.requires.rows in
    let below = c.loop-trip-test.true in
    let given = c.requires.rides c.loop-trip.trip c.index_mut.result.now (omega (arith, rows, below)) in
    let same : c.replace-ride.result ≡ get_or c.args.given.items c.loop-trip.trip c.index_mut.result.now =
    c.replace-ride.ensures.value ∙ c.index_mut.ensures.value ∙ left_at c.loop-trip.rides.items c.args.given.items c.loop-trip.trip c.index_mut.result.now c.loop-trip.invariant.left in
    subst (λ (ride : Vec Event Global). IsRideOrNone ride.items) (sym same) given

pub loop-trip-preserved : goal.loop-trip-preserved
loop-trip-preserved c =
    let feed : FeedTrips = record { rows = c.args.rows.now; rides = map (λ (ride : Vec Event Global). ride.items) c.args.given.items; frequencies = c.args.table.now.rows } in
    let rows = c.requires.rows in
    let below = c.loop-trip-test.true in
    let many = c.loop-trip.invariant.many in
    let same : c.replace-ride.result ≡ get_or c.args.given.items c.loop-trip.trip c.index_mut.result.now =
    c.replace-ride.ensures.value ∙ c.index_mut.ensures.value ∙ left_at c.loop-trip.rides.items c.args.given.items c.loop-trip.trip c.index_mut.result.now c.loop-trip.invariant.left in
    let id = ap (λ (t : TripData). t.id) c.row.view_is ∙ id_at feed c.loop-trip.trip c.index-rows-trip.result below c.index-rows-trip.is in
    let ride : c.replace-ride.result.items ≡ get_or feed.rides c.loop-trip.trip [] =
    ap (λ (ride : Vec Event Global). ride.items) same
    ∙ sym (get_or-map (λ (ride : Vec Event Global). ride.items) c.args.given.items c.loop-trip.trip c.index_mut.result.now [] (omega (arith, rows, below))) in
    record {
      many = length-set _ _ _ ∙ many;
      left = left_more c.loop-trip.rides.items c.args.given.items c.loop-trip.trip _ c.loop-trip.invariant.left;
      trips = trips_added day.Date feed c.args.runs.now c.loop-trip.trip c.loop-trip.trips.items c.add_own.new.trips.items _ c.loop-trip.invariant.trips c.in_ok-add_own.ensures
          (row_at day.Date feed c.args.runs.now c.loop-trip.trip _ c.replace-ride.result.items id ride);
    }

pub returns : goal.returns
returns c =
    let feed : FeedTrips = record { rows = c.args.rows.now; rides = map (λ (ride : Vec Event Global). ride.items) c.args.given.items; frequencies = c.args.table.now.rows } in
    let done = c.loop-trip-test.false in
    let most = c.loop-trip.auto.trip-end in
    c.loop-trip.invariant.trips ∙ all_trips day.Date feed c.args.runs.now c.loop-trip.trip (omega (arith, done, most))

use Rattle.std.proofs.Common.{◌∙◌, sym, arith}
use Rattle.journey_read.proofs.RideSteps.{no_trip, trip_has_none, trip_has_one}
use Rattle.journey_read.proofs.rides.Ends.ride.Goals as goal

pub loop-t-init : goal.loop-t-init
loop-t-init c = c.trips_named-t-items.ensures.rides c.args.day c.args.self.now

pub returns-in-Some : goal.returns-in-Some
returns-in-Some c =
    let at = rw c.table-timetable.ensures at c.trip-trip.ensures.trip in
    trip_has_one c.args.name.now c.args.day c.args.self.now c.args.table.now.trips c.trips_named-t-items.result.now c.loop-t.t-index _ c.trip-trip.result.now c.in-Some.leg c.loop-t-test.true at c.loop-t.invariant (sym c.on.ensures ∙ c.in-Some.is)

pub loop-t-preserved : goal.loop-t-preserved
loop-t-preserved c =
    let at = rw c.table-timetable.ensures at c.trip-trip.ensures.trip in
    trip_has_none c.args.name.now c.args.day c.args.self.now c.args.table.now.trips c.trips_named-t-items.result.now c.loop-t.t-index _ c.trip-trip.result.now c.loop-t-test.true at c.loop-t.invariant (sym c.on.ensures ∙ c.in_default.is)

pub returns : goal.returns
returns c = no_trip c.args.name.now c.args.day c.args.self.now c.args.table.now.trips c.trips_named-t-items.result.now c.loop-t.t-index (omega (arith, c.loop-t-test.false)) c.loop-t.invariant

use Rattle.std.proofs.Common.{◌∙◌, length, map, arith}
use Rattle.service_trips.specs.Times.{HasFileTimes}
use Rattle.service_trips.proofs.TripRows.{All-stop_times, length-stop_times-le}
use Rattle.service_trips.proofs.TripSteps.{trip_right, trip_fault, all_right, rides_more}
use Rattle.service_trips.proofs.SoundRides.{rides_sound}
use Rattle.service_trips.proofs.rides.rides_of.Goals as goal

pub returns-in-Some-clause-meant : goal.returns-in-Some-clause-meant
returns-in-Some-clause-meant c =
    let ordered = c.deref.ensures.value ∙ c.in_ok-stop_times.ensures in
    trip_fault c.args.rows.now c.deref.result.now c.args.runs.now c.loop-trip.trip c.in-Some.fault c.loop-trip-test.true ordered c.in-Some.ensures c.loop-trip.invariant.right

pub ride_in-requires-clause-fits : goal.ride_in-requires-clause-fits
ride_in-requires-clause-fits c =
    let ordered = c.deref-in-loop-trip.ensures.value ∙ c.in_ok-stop_times.ensures in
    let most = length-stop_times-le c.args.rows.now c.loop-trip.trip in
    let few = c.requires.row_count in
    rw ordered (omega (arith, most, few))

pub ride_in-requires-clause-times : goal.ride_in-requires-clause-times
ride_in-requires-clause-times c =
    let ordered = c.deref-in-loop-trip.ensures.value ∙ c.in_ok-stop_times.ensures in
    rw ordered (All-stop_times HasFileTimes c.args.rows.now c.loop-trip.trip c.requires.times)

pub loop-trip-preserved : goal.loop-trip-preserved
loop-trip-preserved c =
    let first = c.deref.ensures.value ∙ c.in_ok-stop_times.ensures in
    let second = c.deref-in-loop-trip.ensures.value ∙ c.in_ok-stop_times.ensures in
    record {
      right = trip_right c.args.rows.now c.deref.result.now c.loop-trip.trip (length c.args.runs.now) c.loop-trip-test.true first c.in_default.ensures c.loop-trip.invariant.right;
      rides = rides_more (λ ride. ride.items) c.args.rows.now c.deref-in-loop-trip.result.now c.args.runs.now c.loop-trip.trip c.loop-trip.rides.items c.push.new.self.items c.in_ok-ride.ride
          second c.in_ok-ride.ensures c.loop-trip.invariant.rides c.in_ok-push.ensures.items;
    }

pub returns-clause-meant : goal.returns-clause-meant
returns-clause-meant c =
    all_right c.args.rows.now c.args.runs.now c.loop-trip.trip (map (λ ride. ride.items) c.loop-trip.rides.items) (omega arith) c.loop-trip.invariant.right c.loop-trip.invariant.rides

pub returns-clause-sound : goal.returns-clause-sound
returns-clause-sound c = λ stops within.
    rides_sound (λ ride. ride.items) c.args.rows.now c.args.runs.now c.loop-trip.rides.items stops c.requires.times within
    (all_right c.args.rows.now c.args.runs.now c.loop-trip.trip (map (λ ride. ride.items) c.loop-trip.rides.items) (omega arith) c.loop-trip.invariant.right c.loop-trip.invariant.rides)

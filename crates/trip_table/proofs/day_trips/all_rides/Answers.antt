use Rattle.std.proofs.Common.{ap, ◌<◌, length, map, arith, Vec, Global}
use Rattle.std.specs.Prelude.{All}
use Rattle.std.proofs.lemmas.List.{length-map}
use Rattle.tb_base.specs.declared.table.Event.{Event}
use Rattle.footpaths.specs.Stops.{platforms}
use Rattle.service_trips.specs.declared.stop_time.StopTime.{StopTime}
use Rattle.trip_table.proofs.DayTrips.{as_many}
use Rattle.trip_table.proofs.day_trips.all_rides.Goals as goal

pub returns-in-Ok-clause-long : goal.returns-in-Ok-clause-long
returns-in-Ok-clause-long c =
    let many = as_many c.times.result.now c.as_slice.result.now (map (λ (ride : Vec Event Global). ride.items) c.in-Ok.rides.items) c.in-Ok.ensures.meant in
    let runs = ap length c.as_slice.ensures.value in
    let long = c.in_ok-wanted.ensures.long in
    let same = length-map c.in-Ok.rides.items (λ (ride : Vec Event Global). ride.items) in
    omega (arith, many, runs, long, same)

pub returns-in-Ok-clause-sound : goal.returns-in-Ok-clause-sound
returns-in-Ok-clause-sound c =
    let n = length (platforms c.args.rows.now.stops) in
    let stops : All (λ (r : StopTime). r.stop < n) c.times.result.now = rw c.times.ensures.times c.times.ensures.good.stop in
    c.in-Ok.ensures.sound n stops

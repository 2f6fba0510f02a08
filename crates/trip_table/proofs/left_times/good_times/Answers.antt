use Rattle.std.proofs.Common.{◌<◌, length}
use Rattle.gtfs_rows.specs.declared.fault.FeedFile.TheVariants as file
use Rattle.service_trips.specs.Times.{HasFileTimes}
use Rattle.service_trips.specs.declared.stop_time.StopTime.{StopTime}
use Rattle.trip_table.specs.LeftFeed.{good_time}
use Rattle.trip_table.proofs.LeftRowFacts.{given_all, times_there, trips_there}
use Rattle.trip_table.proofs.left_times.good_times.Goals as goal

pub returns-clause-trips : goal.returns-clause-trips
returns-clause-trips c =
    let stops = c.args.stops.now in
    let trips = c.args.trips.now in
    let read = rw (c.in_ok-reader.ensures.0, c.in_ok-reader.ensures.1) at c.rows_by.ensures.bytes in
    given_all (λ v. v.items) (λ r. StopTime.trip_row r < length trips) file.StopTimes (good_time stops trips) c.rows_by.result read (λ bytes rows e. trips_there stops trips bytes rows e)

pub returns-clause-times : goal.returns-clause-times
returns-clause-times c =
    let stops = c.args.stops.now in
    let trips = c.args.trips.now in
    let read = rw (c.in_ok-reader.ensures.0, c.in_ok-reader.ensures.1) at c.rows_by.ensures.bytes in
    given_all (λ v. v.items) HasFileTimes file.StopTimes (good_time stops trips) c.rows_by.result read (λ bytes rows e. times_there stops trips bytes rows e)

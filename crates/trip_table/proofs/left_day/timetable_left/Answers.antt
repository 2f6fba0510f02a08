use Rattle.trip_table.proofs.LeftDaySteps.{transfers_bad, transfers_good}
use Rattle.trip_table.specs.Day.{given_footpaths}
use Rattle.trip_table.proofs.left_day.timetable_left.Goals as goal

pub returns-in-Ok : goal.returns-in-Ok
returns-in-Ok c =
    let told = rw c.stops.ensures.stops at c.in-Ok.ensures.told in
    transfers_good c.args.day.now c.args.options.now (record { rows = c.args.rows.now; transfers = c.args.transfers.now; frequencies = c.args.frequencies.now.rows }) c.timetable_of.result told.0
    (c.timetable_of.ensures (given_footpaths c.args.rows.now.stops c.args.options.now c.args.transfers.now) told.1)

pub returns-in-Err : goal.returns-in-Err
returns-in-Err c =
    let told = rw c.stops.ensures.stops at c.in-Err.ensures.told in
    transfers_bad c.args.day.now c.args.options.now (record { rows = c.args.rows.now; transfers = c.args.transfers.now; frequencies = c.args.frequencies.now.rows }) c.in-Err.fault told

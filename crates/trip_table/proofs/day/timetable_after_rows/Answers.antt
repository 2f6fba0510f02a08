use Rattle.trip_table.specs.Answers.{feed_of}
use Rattle.trip_table.specs.Day.{given_footpaths}
use Rattle.trip_table.proofs.DaySteps.{transfers_fault, transfers_are}
use Rattle.trip_table.proofs.day.timetable_after_rows.Goals as goal

pub returns-in-Err-clause-told : goal.returns-in-Err-clause-told
returns-in-Err-clause-told g c = λ there.
    transfers_fault (feed_of (g.F.Folder.files c.args.folder.now) c.args.dir.now) c.args.day.now c.args.options.now c.args.rows.now c.stops.result.now c.in-Err.fault c.stops.ensures.stops (c.in-Err.ensures.told there)

pub returns-in-Ok-clause-told : goal.returns-in-Ok-clause-told
returns-in-Ok-clause-told g c = λ there.
    let told = c.in-Ok.ensures.told there in
    transfers_are (g.F.Folder.files c.args.folder.now) _ c.args.dir.now c.args.day.now c.args.options.now c.args.rows.now c.stops.result.now told.0 c.timetable_after_paths.result c.in-Ok.ensures.leaves.files c.stops.ensures.stops told.1
    (λ known. c.timetable_after_paths.ensures.told known (given_footpaths c.stops.result.now c.args.options.now told.0) told.2) there

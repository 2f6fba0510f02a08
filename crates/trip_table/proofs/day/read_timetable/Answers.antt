use Rattle.trip_table.proofs.DaySteps.{rows_fault, rows_are}
use Rattle.trip_table.proofs.day.read_timetable.Goals as goal

pub returns-in-Err-clause-told : goal.returns-in-Err-clause-told
returns-in-Err-clause-told g c = rows_fault (g.F.Folder.files c.args.folder.now) c.args.dir.now c.args.day.now c.args.options.now c.in-Err.fault c.in-Err.ensures.told

pub returns-in-Ok-clause-told : goal.returns-in-Ok-clause-told
returns-in-Ok-clause-told g c =
    rows_are (g.F.Folder.files c.args.folder.now) _ c.args.dir.now c.args.day.now c.args.options.now c.in-Ok.rows c.timetable_after_rows-told.result c.in-Ok.ensures.leaves.files c.in-Ok.ensures.told c.timetable_after_rows-told.ensures.told

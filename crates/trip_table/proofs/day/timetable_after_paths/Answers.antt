use Rattle.std.specs.Prelude.{Ok}
use Rattle.std.proofs.lemmas.Result.{err_from_is_err_and}
use Rattle.trip_table.specs.Answers.{feed_of}
use Rattle.trip_table.proofs.DaySteps.{frequencies_are, frequencies_fault, frequencies_refused}
use Rattle.trip_table.proofs.day.timetable_after_paths.Goals as goal

pub returns-in-Err-clause-told : goal.returns-in-Err-clause-told
returns-in-Err-clause-told g c = λ there counted is.
    frequencies_fault (feed_of (g.F.Folder.files c.args.folder.now) c.args.dir.now) c.args.day.now c.args.options.now.horizon c.args.options.now.close c.args.rows.now counted c.trips.result.now c.in-Err.fault c.trips.ensures (c.in-Err.ensures.told there)

pub returns-clause-told : goal.returns-clause-told
returns-clause-told g c = λ there counted is.
    frequencies_are (feed_of (g.F.Folder.files c.args.folder.now) c.args.dir.now) c.args.day.now c.args.options.now.horizon c.args.options.now.close c.args.rows.now counted c.trips.result.now c.in-Ok.frequencies.rows (Ok c.in_ok-timetable_of.field-0) c.trips.ensures (c.in-Ok.ensures.told there)
    (c.in_ok-timetable_of.ensures counted is)

pub returns-in_err-timetable_of-clause-told : goal.returns-in_err-timetable_of-clause-told
returns-in_err-timetable_of-clause-told g c = λ there counted is.
    let e = err_from_is_err_and c.from_residual.result c.from_residual.ensures.1 in
    rw (e.1, e.2) (frequencies_refused (feed_of (g.F.Folder.files c.args.folder.now) c.args.dir.now) c.args.day.now c.args.options.now.horizon c.args.options.now.close c.args.rows.now counted c.trips.result.now c.in-Ok.frequencies.rows c.in_err-timetable_of.field-0.0 c.trips.ensures (c.in-Ok.ensures.told there)
    (c.in_err-timetable_of.ensures counted is))

use Rattle.trip_table.specs.Answers.{feed_of}
use Rattle.trip_table.specs.Day.{IsTimetableOf}
use Rattle.trip_table.proofs.Complete.{day_given, fault_given}
use Rattle.trip_table.proofs.day.read_day.Goals as goal

pub returns-clause-timetable : goal.returns-clause-timetable
returns-clause-timetable g c = λ known still T is.
    let feed = feed_of (g.F.Folder.files c.args.folder.now) c.args.dir.now in
    day_given (IsTimetableOf feed c.args.day.now c.args.options.now) (λ a b. c.timetable_determined.ensures feed c.args.day.now c.args.options.now a b)
    c.read_timetable.result T _ _ (c.read_timetable.ensures.told known) c.read_timetable.ensures.leaves.faults still is

pub returns-clause-fault : goal.returns-clause-fault
returns-clause-fault g c = λ known still f is.
    let feed = feed_of (g.F.Folder.files c.args.folder.now) c.args.dir.now in
    fault_given (IsTimetableOf feed c.args.day.now c.args.options.now) (λ a b. c.timetable_determined.ensures feed c.args.day.now c.args.options.now a b)
    c.read_timetable.result f _ _ (c.read_timetable.ensures.told known) c.read_timetable.ensures.leaves.faults still is

use Rattle.trip_table.proofs.Determined.{timetable_unique}
use Rattle.trip_table.proofs.laws.timetable_determined.Goals as goal

pub returns : goal.returns
returns c = timetable_unique

use Rattle.trip_table.proofs.Given.{timetable_is}
use Rattle.trip_table.proofs.laws.timetable_given.Goals as goal

pub returns : goal.returns
returns c = λ feed day options within. timetable_is feed day options within.change within.station

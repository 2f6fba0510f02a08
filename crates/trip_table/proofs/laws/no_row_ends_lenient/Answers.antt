use Rattle.trip_table.proofs.LeftLaws.{lenient_end}
use Rattle.trip_table.proofs.laws.no_row_ends_lenient.Goals as goal

pub returns : goal.returns
returns c = λ feed day options faults f h. lenient_end feed day options faults f h

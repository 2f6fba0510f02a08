use Rattle.trip_table.proofs.AskedLaws.{lenient_unique}
use Rattle.trip_table.proofs.laws.lenient_determined.Goals as goal

pub returns : goal.returns
returns c = lenient_unique

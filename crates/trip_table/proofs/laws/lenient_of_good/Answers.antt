use Rattle.trip_table.proofs.AskedLaws.{lenient_good}
use Rattle.trip_table.proofs.laws.lenient_of_good.Goals as goal

pub returns : goal.returns
returns c = lenient_good

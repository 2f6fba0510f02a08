use Rattle.trip_table.proofs.AskedLaws.{asked_unique}
use Rattle.trip_table.proofs.laws.asked_determined.Goals as goal

pub returns : goal.returns
returns c = asked_unique

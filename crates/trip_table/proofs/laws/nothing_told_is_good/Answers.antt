use Rattle.trip_table.proofs.NoneTold.{checked_good}
use Rattle.trip_table.proofs.laws.nothing_told_is_good.Goals as goal

pub returns : goal.returns
returns c = checked_good

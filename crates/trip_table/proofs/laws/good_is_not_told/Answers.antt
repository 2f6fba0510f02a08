use Rattle.trip_table.proofs.AskedLaws.{good_untold}
use Rattle.trip_table.proofs.laws.good_is_not_told.Goals as goal

pub returns : goal.returns
returns c = good_untold

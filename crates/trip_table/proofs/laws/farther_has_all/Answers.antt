use Rattle.trip_table.proofs.Farther.{farther_has_all}
use Rattle.trip_table.proofs.laws.farther_has_all.Goals as goal

pub returns : goal.returns
returns c = farther_has_all

use Rattle.uturn_cut.proofs.Rows.{candidates_cut}
use Rattle.uturn_cut.proofs.laws.candidates_cut.Goals as goal

pub returns : goal.returns
returns c = candidates_cut

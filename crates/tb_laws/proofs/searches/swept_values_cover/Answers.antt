use Rattle.tb_laws.proofs.SweepLaws.{swept_values_cover}
use Rattle.tb_laws.proofs.searches.swept_values_cover.Goals as goal

pub returns : goal.returns
returns c = swept_values_cover

use Rattle.tb_laws.proofs.SearchLaws.{whole_search}
use Rattle.tb_laws.proofs.searches.whole_search.Goals as goal

pub returns : goal.returns
returns c = whole_search

use Rattle.tb_laws.proofs.SearchLaws.{pruned_value_found}
use Rattle.tb_laws.proofs.searches.pruned_value_found.Goals as goal

pub returns : goal.returns
returns c = pruned_value_found

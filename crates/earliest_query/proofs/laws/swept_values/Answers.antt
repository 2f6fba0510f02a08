use Rattle.earliest_query.proofs.SweptSearch.{swept_cover}
use Rattle.earliest_query.proofs.laws.swept_values.Goals as goal

pub returns : goal.returns
returns c = swept_cover

use Rattle.earliest_query.proofs.Reaching.{no_hits}
use Rattle.earliest_query.proofs.laws.no_target_no_hit.Goals as goal

pub returns : goal.returns
returns c = λ N Q D answered none. no_hits N.table Q D.segments D.hits answered.traced.hits none

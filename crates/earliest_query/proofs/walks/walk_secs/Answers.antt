use Rattle.tb_base.proofs.Walks.{found_within}
use Rattle.earliest_query.proofs.walks.walk_secs.Goals as goal

pub returns-clause-at_most_a_day : goal.returns-clause-at_most_a_day
returns-clause-at_most_a_day g c = rw c.path_secs.ensures (found_within _ _ _ c.walks.result.now c.walks.ensures.sound)

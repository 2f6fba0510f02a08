use Rattle.reach_all.proofs.Ranking.{in_order}
use Rattle.reach_all.proofs.figures.put_in_order.Goals as goal

pub returns-clause-order : goal.returns-clause-order
returns-clause-order c = in_order _ c.sort_unstable.ensures.sorted

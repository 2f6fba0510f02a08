use Rattle.std.proofs.Common.{rules}
use Rattle.std.proofs.lemmas.Fn.{always_returns_same}
use Rattle.line_split.proofs.TripOrders.{precedes, precedes-ranks}
use Rattle.line_split.proofs.order.sort_trips.Goals as goal

pub returns-clause-sorted : goal.returns-clause-sorted
returns-clause-sorted c =
    let T = c.args.table.now in
    c.sort_unstable_by.ensures.sorted (precedes T) (precedes-ranks T) (always_returns_same _ _ _ (λ a r f h. search rules))

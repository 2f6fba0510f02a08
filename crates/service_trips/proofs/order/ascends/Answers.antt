use Rattle.std.proofs.Common.{refl}
use Rattle.service_trips.proofs.Sorted.{pairs_from_neighbours}
use Rattle.service_trips.proofs.order.ascends.Goals as goal

pub returns : goal.returns
returns c = (λ _. pairs_from_neighbours c.args.rows.now c.loop-k.k c.loop-k-test.false c.loop-k.invariant, λ _. refl)

use Rattle.std.proofs.Common.{length}
use Rattle.reduce_workers.proofs.Placing.{Placed}
use Rattle.reduce_workers.proofs.places.place.Given as goal

abbrev pub invariant-loop-n : goal.invariant-loop-n
invariant-loop-n l = Placed l.count l.fn.pieces.items l.pieces.items l.slots.items

abbrev pub decreases-loop-n : goal.decreases-loop-n
decreases-loop-n l = length l.pieces.items

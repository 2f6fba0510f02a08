use Rattle.std.proofs.Common.{◌≡◌, length}
use Rattle.reduce_workers.proofs.places.vacant.Given as goal

abbrev pub invariant-loop-slot : goal.invariant-loop-slot
invariant-loop-slot l = length l.slots.items ≡ l._slot

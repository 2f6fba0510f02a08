use Rattle.std.proofs.Common.{◌≡◌, replicate}
use Rattle.edition_store.proofs.store.keepers.Given as goal

abbrev pub invariant-loop : goal.invariant-loop
invariant-loop g l = l.keepers.items ≡ replicate l.counter l.fn.first

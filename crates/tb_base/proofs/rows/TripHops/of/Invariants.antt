use Rattle.std.proofs.Common.{◌≡◌, ℕ, length, get_or, take, []}
use Rattle.tb_base.specs.OutSets.{hops_at}
use Rattle.tb_base.proofs.rows.TripHops.of.Given as goal

abbrev pub invariant-loop-k : goal.invariant-loop-k
invariant-loop-k l = record {
  long : length l.hops ≡ l.events;
  hops : (i : ℕ) → get_or l.hops i [] ≡ hops_at (take l.k l.row) i;
}

use Rattle.std.proofs.Common.{◌≡◌, ◌++◌, take}
use Rattle.tb_base.specs.OutSets.{hops_at}
use Rattle.transfer_pack.proofs.trip_hops.add_run.Given as goal

abbrev pub invariant-loop-k : goal.invariant-loop-k
invariant-loop-k l = l.hops ≡ l.initial.hops ++ hops_at (take l.k l.run) l.at

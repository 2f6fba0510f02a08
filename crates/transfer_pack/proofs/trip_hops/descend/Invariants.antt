use Rattle.std.proofs.Common.{ℕ, ◌<◌, ◌≤◌, get_or}
use Rattle.tb_base.specs.declared.transfer.Transfer.{Transfer}
use Rattle.transfer_pack.proofs.trip_hops.descend.Given as goal

abbrev pub invariant-loop-k : goal.invariant-loop-k
invariant-loop-k l = (i j : ℕ) (d : Transfer) → i < j → j < l.k → (get_or l.row j d).at ≤ (get_or l.row i d).at

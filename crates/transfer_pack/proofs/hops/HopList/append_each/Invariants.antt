use Rattle.std.proofs.Common.{◌≡◌, ◌++◌, take}
use Rattle.transfer_pack.specs.Words.{lent}
use Rattle.transfer_pack.proofs.hops.HopList.append_each.Given as goal

abbrev pub invariant-loop-place : goal.invariant-loop-place
invariant-loop-place l = l.self ≡ l.initial.self ++ take l.place (lent l.more)

use Rattle.std.proofs.Common.{◌≡◌, drop, find}
use Rattle.std.specs.Prelude.{nat_lt}
use Rattle.foot_close.specs.declared.search.Reached.{Reached}
use Rattle.foot_close.proofs.far.far_in.Given as goal

abbrev pub invariant-loop-reached : goal.invariant-loop-reached
invariant-loop-reached l = find (λ r. nat_lt 86400 (Reached.secs r)) l.row ≡ find (λ r. nat_lt 86400 (Reached.secs r)) (drop l.reached-index l.row)

use Rattle.std.proofs.Common.{◌≡◌, map, replicate, []}
use Rattle.transfer_pack.proofs.paths_into.PathsInto.new.Given as goal

abbrev pub invariant-loop-stop : goal.invariant-loop-stop
invariant-loop-stop l = map (λ v. v.items) l.rows.items ≡ replicate l._stop []

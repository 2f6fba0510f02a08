use Rattle.std.proofs.Common.{◌≡◌, map, replicate, []}
use Rattle.tb_base.proofs.groups.Groups.new.Given as goal

abbrev pub invariant-loop-key : goal.invariant-loop-key
invariant-loop-key l = map (λ v. v.items) l.rows.items ≡ replicate l._key []

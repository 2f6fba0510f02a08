use Rattle.std.proofs.Common.{◌≡◌, map, replicate, []}
use Rattle.tb_base.proofs.rows.TripHops.new.Given as goal

abbrev pub invariant-loop-event : goal.invariant-loop-event
invariant-loop-event l = map (λ v. v.items) l.lists.items ≡ replicate l._event []

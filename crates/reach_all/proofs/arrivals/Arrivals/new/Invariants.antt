use Rattle.std.proofs.Common.{◌≡◌, [], map, replicate}
use Rattle.reach_all.proofs.arrivals.Arrivals.new.Given as goal

abbrev pub invariant-loop-stop : goal.invariant-loop-stop
invariant-loop-stop l = map (λ row. row.items) l.rows.items ≡ replicate l._stop []

use Rattle.std.proofs.Common.{◌≡◌, [], map, replicate}
use Rattle.reach_all.specs.Arriving.{lone}
use Rattle.reach_all.proofs.soonest.no_times.Given as goal

abbrev pub invariant-loop-stop : goal.invariant-loop-stop
invariant-loop-stop l = map lone l.times.items ≡ replicate l._stop []

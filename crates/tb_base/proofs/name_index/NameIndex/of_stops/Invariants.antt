use Rattle.std.proofs.Common.{◌≡◌, map, take}
use Rattle.tb_base.proofs.name_index.NameIndex.of_stops.Given as goal

abbrev pub invariant-loop-stop : goal.invariant-loop-stop
invariant-loop-stop l = l.index ≡ map (λ s. s.name) (take l.stop-index l.stops)

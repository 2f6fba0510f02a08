use Rattle.std.proofs.Common.{◌≡◌, map, take}
use Rattle.tb_base.proofs.name_index.NameIndex.of_stations.Given as goal

abbrev pub invariant-loop-station : goal.invariant-loop-station
invariant-loop-station l = l.index ≡ map (λ s. s.name) (take l.station-index l.stations)

use Rattle.std.proofs.Common.{◌≡◌, map, take}
use Rattle.gtfs_rows.specs.StopsFile.{StopData}
use Rattle.footpaths.specs.Stops.{platforms}
use Rattle.trip_table.proofs.assemble.stops_of.Given as goal

abbrev pub invariant-loop-row : goal.invariant-loop-row
invariant-loop-row l = l.stops.items ≡ map (λ s. record { name = StopData.id s }) (platforms (take l.row-index l.rows))

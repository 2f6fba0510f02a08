use Rattle.std.proofs.Common.{◌≡◌, map, take, []}
use Rattle.gtfs_rows.specs.StopsFile.{StopData}
use Rattle.footpaths.specs.Stops.{stations}
use Rattle.trip_table.proofs.assemble.empty_stations.Given as goal

abbrev pub invariant-loop-row : goal.invariant-loop-row
invariant-loop-row l = l.stations.items ≡ map (λ s. record { name = StopData.id s; stops = [] }) (stations (take l.row-index l.rows))

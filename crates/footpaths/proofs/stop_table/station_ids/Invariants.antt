use Rattle.std.proofs.Common.{◌≡◌, map, take}
use Rattle.footpaths.specs.Stops.{stop_id, stations}
use Rattle.footpaths.proofs.stop_table.station_ids.Given as goal

abbrev pub invariant-loop-row : goal.invariant-loop-row
invariant-loop-row l = l.ids ≡ map stop_id (stations (take l.row-index l.rows))

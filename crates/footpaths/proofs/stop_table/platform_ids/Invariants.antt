use Rattle.std.proofs.Common.{◌≡◌, map, take}
use Rattle.footpaths.specs.Stops.{stop_id, platforms}
use Rattle.footpaths.proofs.stop_table.platform_ids.Given as goal

abbrev pub invariant-loop-row : goal.invariant-loop-row
invariant-loop-row l = l.ids ≡ map stop_id (platforms (take l.row-index l.rows))

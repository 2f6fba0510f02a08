use Rattle.std.proofs.Common.{◌≡◌, map, take}
use Rattle.footpaths.specs.Stops.{platforms, parent_station}
use Rattle.footpaths.proofs.stop_table.parents_of.Given as goal

abbrev pub invariant-loop-row : goal.invariant-loop-row
invariant-loop-row l = l.parents.items ≡ map (parent_station l.rows) (platforms (take l.row-index l.rows))

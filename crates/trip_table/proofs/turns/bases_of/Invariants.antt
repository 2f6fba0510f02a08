use Rattle.std.proofs.Common.{◌≡◌, map, take}
use Rattle.footpaths.specs.Stops.{stop_id}
use Rattle.trip_table.specs.Turns.{base_of}
use Rattle.trip_table.proofs.turns.bases_of.Given as goal

abbrev pub invariant-loop-row : goal.invariant-loop-row
invariant-loop-row l = l.bases.items ≡ map (base_of (map stop_id l.rows)) (take l.row-index l.rows)

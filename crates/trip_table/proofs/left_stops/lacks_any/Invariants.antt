use Rattle.std.proofs.Common.{◌≡◌, take, false}
use Rattle.std.specs.List.{list_any}
use Rattle.footpaths.specs.Stops.{lacks_parent}
use Rattle.trip_table.proofs.left_stops.lacks_any.Given as goal

abbrev pub invariant-loop-row : goal.invariant-loop-row
invariant-loop-row l = list_any (lacks_parent l.rows) (take l.row-index l.rows) ≡ false

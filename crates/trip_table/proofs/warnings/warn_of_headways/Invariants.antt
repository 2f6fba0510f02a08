use Rattle.std.proofs.Common.{◌≡◌, ◌++◌, take, flat_map}
use Rattle.trip_table.specs.Warnings.{headway_warning}
use Rattle.trip_table.proofs.warnings.warn_of_headways.Given as goal

abbrev pub invariant-loop-row : goal.invariant-loop-row
invariant-loop-row l = l.warnings.items ≡ l.fn.warnings.items ++ flat_map headway_warning (take l.row-index l.rows)

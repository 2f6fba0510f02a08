use Rattle.std.proofs.Common.{◌≡◌, ◌++◌, take, flat_map}
use Rattle.trip_table.specs.Warnings.{service_warning}
use Rattle.trip_table.proofs.warnings.warn_of_services.Given as goal

abbrev pub invariant-loop-trip : goal.invariant-loop-trip
invariant-loop-trip l = l.warnings.items ≡ l.fn.warnings.items ++ flat_map (service_warning l.rows.services) (take l.trip-index l.rows.trips)

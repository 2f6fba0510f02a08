use Rattle.std.proofs.Common.{◌≡◌, take, false}
use Rattle.std.specs.Prelude.{bytes_eq}
use Rattle.std.specs.List.{list_any}
use Rattle.gtfs_rows.specs.TripsFile.{TripData}
use Rattle.trip_table.proofs.warnings.has_trips.Given as goal

abbrev pub invariant-loop-trip : goal.invariant-loop-trip
invariant-loop-trip l = list_any (λ t. list_any (bytes_eq (TripData.service t)) l.services) (take l.trip-index l.trips) ≡ false

use Rattle.std.proofs.Common.{◌≡◌, List, map, drop}
use Rattle.gtfs_rows.specs.Faults.{unless_wrong}
use Rattle.gtfs_rows.specs.TripsFile.{TripData}
use Rattle.service_trips.specs.Limits.{wrong_frequency, check_frequencies}
use Rattle.service_trips.proofs.beyond.first_beyond.Given as goal

abbrev pub invariant-loop-frequency : goal.invariant-loop-frequency
invariant-loop-frequency l =
    (rows : List TripData) → check_frequencies (record { rows = rows; rides = map (λ ride. ride.items) l.rides; frequencies = l.table.rows })
    ≡ unless_wrong (map (wrong_frequency (record { rows = rows; rides = map (λ ride. ride.items) l.rides; frequencies = l.table.rows })) (drop l.frequency-index l.table.rows)) l.table.rows

use Rattle.std.proofs.Common.{◌≡◌, map, take}
use Rattle.service_trips.specs.declared.frequency.TripFrequency.{TripFrequency}
use Rattle.service_trips.proofs.frequency.trip_rows.Given as goal

abbrev pub invariant-loop-row : goal.invariant-loop-row
invariant-loop-row l = l.keys.items ≡ map (λ f. TripFrequency.trip_row f) (take l.row-index l.rows)

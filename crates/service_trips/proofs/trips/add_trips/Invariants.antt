use Rattle.std.proofs.Common.{◌≡◌, ◌++◌, map}
use Rattle.service_trips.proofs.Rows.{first_trips}
use Rattle.service_trips.proofs.trips.add_trips.Given as goal

abbrev pub invariant-loop-trip : goal.invariant-loop-trip
invariant-loop-trip l = l.trips.items ≡ l.initial.trips.items ++ first_trips l.day (record { rows = l.rows; rides = map (λ ride. ride.items) l.rides; frequencies = l.table.rows }) l.runs l.trip

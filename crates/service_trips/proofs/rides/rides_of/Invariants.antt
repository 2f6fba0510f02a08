use Rattle.std.proofs.Common.{◌≡◌, ◌-◌, length, map}
use Rattle.service_trips.specs.Faults.{first_wrong}
use Rattle.service_trips.specs.TimeFaults.{wrong_trips}
use Rattle.service_trips.specs.Rides.{rides_on}
use Rattle.service_trips.proofs.rides.rides_of.Given as goal

abbrev pub invariant-loop-trip : goal.invariant-loop-trip
invariant-loop-trip l = record {
  right : first_wrong (wrong_trips l.rows 0 (length l.runs)) ≡ first_wrong (wrong_trips l.rows l.trip (length l.runs - l.trip));
  rides : map (λ ride. ride.items) l.rides.items ≡ rides_on l.rows l.runs l.trip;
}

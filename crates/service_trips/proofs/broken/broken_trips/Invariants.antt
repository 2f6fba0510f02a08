use Rattle.std.proofs.Common.{◌≡◌}
use Rattle.service_trips.specs.Broken.{broken_trips}
use Rattle.service_trips.proofs.broken.broken_trips.Given as goal

abbrev pub invariant-loop-trip : goal.invariant-loop-trip
invariant-loop-trip l = l.found.items ≡ broken_trips l.rows l.trip

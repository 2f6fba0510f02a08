use Rattle.std.proofs.Common.{◌≡◌, ◌<◌, ℕ, take, get_or, length, false}
use Rattle.std.specs.Prelude.{◌==◌}
use Rattle.std.specs.List.{list_any}
use Rattle.service_trips.specs.declared.broken.TripFault.{TripFault}
use Rattle.trip_table.proofs.left_times.marks_of.Given as goal

abbrev pub invariant-loop-broken : goal.invariant-loop-broken
invariant-loop-broken l = record {
  many : length l.marks.items ≡ l.trips;
  marks : (t : ℕ) → t < l.trips → get_or l.marks.items t false ≡ list_any (λ f. TripFault.trip f == t) (take l.broken-index l.found);
}

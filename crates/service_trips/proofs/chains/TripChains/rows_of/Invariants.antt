use Rattle.std.proofs.Common.{◌≡◌, ◌≤◌, ◌++◌, ℕ, suc, length, take, reverse}
use Rattle.std.specs.Prelude.{filter, slice_index_or}
use Rattle.service_trips.specs.declared.stop_time.StopTime.{StopTime}
use Rattle.service_trips.specs.StopTimes.{is_of_trip}
use Rattle.service_trips.proofs.chains.TripChains.rows_of.Given as goal

abbrev pub invariant-loop-end : goal.invariant-loop-end
invariant-loop-end l = record {
  within : l.end ≤ length l.rows;
  own : (k : ℕ) (d : StopTime) → l.end ≡ suc k → StopTime.trip_row (slice_index_or l.rows k d) ≡ l.trip;
  found : filter (is_of_trip l.trip) (take l.end l.rows) ++ reverse l.found.items ≡ filter (is_of_trip l.trip) l.rows;
}

abbrev pub decreases-loop-end : goal.decreases-loop-end
decreases-loop-end l = l.end

use Rattle.std.proofs.Common.{◌≡◌, ◌++◌, drop, map}
use Rattle.service_trips.specs.Times.{times_of_row, first_timed, nearest_before}
use Rattle.service_trips.specs.Rides.{events_from}
use Rattle.service_trips.proofs.rides.events_in.Given as goal

abbrev pub invariant-loop-k : goal.invariant-loop-k
invariant-loop-k l = record {
  before : l.before ≡ nearest_before (map times_of_row l.rows) l.k;
  after : l.after ≡ first_timed l.k (drop l.k (map times_of_row l.rows));
  events : events_from (map times_of_row l.rows) 0 l.rows ≡ l.events.items ++ events_from (map times_of_row l.rows) l.k (drop l.k l.rows);
}

use Rattle.std.proofs.Common.{◌≡◌, drop, map}
use Rattle.service_trips.specs.Times.{times_of_row, first_timed}
use Rattle.service_trips.proofs.times.first_timed.Given as goal

abbrev pub invariant-loop-k : goal.invariant-loop-k
invariant-loop-k l =
    first_timed l.from (drop l.from (map times_of_row l.rows)) ≡ first_timed l.k (drop l.k (map times_of_row l.rows))

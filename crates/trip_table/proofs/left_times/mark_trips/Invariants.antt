use Rattle.std.proofs.Common.{◌≡◌, drop}
use Rattle.trip_table.specs.LeftFeed.{mark_trips}
use Rattle.trip_table.proofs.left_times.mark_trips.Given as goal

abbrev pub invariant-loop-broken : goal.invariant-loop-broken
invariant-loop-broken l = mark_trips l.fn.found l.fn.marks.items ≡ mark_trips (drop l.broken-index l.found) l.marks.items

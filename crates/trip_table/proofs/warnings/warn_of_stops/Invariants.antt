use Rattle.std.proofs.Common.{◌≡◌, ◌+◌, ◌≤◌, ◌++◌, drop, length}
use Rattle.footpaths.specs.Stops.{platforms}
use Rattle.trip_table.specs.Warnings.{stop_warnings}
use Rattle.trip_table.proofs.warnings.warn_of_stops.Given as goal

abbrev pub invariant-loop-stop : goal.invariant-loop-stop
invariant-loop-stop l = record {
  number : l.platform ≤ l.stop-index;
  left : l.platform + length (platforms (drop l.stop-index l.rows.stops)) ≡ length (platforms l.rows.stops);
  told : l.fn.warnings.items ++ stop_warnings l.rows.times 0 (platforms l.rows.stops) ≡ l.warnings.items ++ stop_warnings l.rows.times l.platform (platforms (drop l.stop-index l.rows.stops));
}

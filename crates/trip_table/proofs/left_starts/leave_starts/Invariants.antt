use Rattle.std.proofs.Common.{◌≡◌, ◌++◌, map, take, flat_map}
use Rattle.trip_table.specs.LeftFeed.{left_start, start_faults}
use Rattle.trip_table.proofs.left_starts.leave_starts.Given as goal

abbrev pub invariant-loop-row : goal.invariant-loop-row
invariant-loop-row l = record {
  told : l.told.items ≡ l.fn.told.items ++ flat_map (start_faults (map (λ ride. ride.items) l.rides)) (take l.row-index l.rows);
  left : l.left.items ≡ map (left_start (map (λ ride. ride.items) l.rides)) (take l.row-index l.rows);
}

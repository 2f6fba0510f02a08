use Rattle.std.proofs.Common.{◌≡◌, ◌≤◌, take, drop, length}
use Rattle.std.specs.Prelude.{filter}
use Rattle.trip_table.specs.Turns.{is_there}
use Rattle.trip_table.proofs.left_stops.rows_there.Given as goal

abbrev pub invariant-loop-row : goal.invariant-loop-row
invariant-loop-row l = record {
  within : l.place ≤ length l.fn.rows.items;
  rest : l.row-iterator.rest.items ≡ drop l.place l.fn.rows.items;
  kept : l.kept.items ≡ filter (is_there l.fn.rows.items l.turn) (take l.place l.fn.rows.items);
}

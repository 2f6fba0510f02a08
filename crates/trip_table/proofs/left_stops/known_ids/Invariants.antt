use Rattle.std.proofs.Common.{◌≡◌, ◌≤◌, ℕ, List, take, length}
use Rattle.std.specs.Prelude.{bytes_eq}
use Rattle.std.specs.List.{list_any}
use Rattle.footpaths.specs.Stops.{has_stop_id}
use Rattle.trip_table.proofs.left_stops.known_ids.Given as goal

abbrev pub invariant-loop-row : goal.invariant-loop-row
invariant-loop-row l = record {
  known : (id : List ℕ) → list_any (bytes_eq id) l.ids ≡ list_any (has_stop_id id) (take l.row-index l.rows);
  few : length l.ids ≤ l.row-index;
}

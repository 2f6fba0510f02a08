use Rattle.std.proofs.Common.{◌≡◌, ◌≤◌, length, take}
use Rattle.std.specs.Prelude.{filter_map}
use Rattle.foot_close.specs.Tables.{path_of}
use Rattle.foot_close.proofs.table.other_stops.Given as goal

abbrev pub invariant-loop-reached : goal.invariant-loop-reached
invariant-loop-reached l = record {
  count : l.count ≡ length (filter_map (path_of l.from) (take l.reached-index l.row));
  bound : l.count ≤ l.reached-index;
}

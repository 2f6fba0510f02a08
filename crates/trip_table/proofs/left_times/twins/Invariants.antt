use Rattle.std.proofs.Common.{◌≡◌, ◌++◌, [], map, take, drop}
use Rattle.std.specs.List.{list_any}
use Rattle.trip_table.specs.LeftFeed.{twins}
use Rattle.trip_table.specs.References.{key_of, same_key}
use Rattle.trip_table.specs.declared.seen.SequenceKey.{SequenceKey}
use Rattle.trip_table.proofs.left_times.twins.Given as goal

abbrev pub invariant-loop-row : goal.invariant-loop-row
invariant-loop-row l = record {
  keys : (k : SequenceKey) → list_any (same_key k) l.seen ≡ list_any (same_key k) (map key_of (take l.row-index l.rows));
  found : twins [] l.rows ≡ l.found.items ++ twins (take l.row-index l.rows) (drop l.row-index l.rows);
}

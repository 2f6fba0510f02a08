use Rattle.std.proofs.Common.{◌≡◌, flat_map, map, take}
use Rattle.std.specs.List.{range_with_len}
use Rattle.line_split.specs.Layout.{order_start}
use Rattle.line_split.proofs.onward.in_one.Given as goal

abbrev pub invariant-loop-line : goal.invariant-loop-line
invariant-loop-line l = record {
  starts : l.starts.items ≡ map (order_start l.lines) (range_with_len 0 l.line);
  trips : l.trips.items ≡ flat_map (λ line. line) (take l.line l.lines);
}

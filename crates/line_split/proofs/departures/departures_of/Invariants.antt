use Rattle.std.proofs.Common.{◌≡◌, length, map, flat_map, take}
use Rattle.std.specs.List.{range_with_len}
use Rattle.line_split.specs.Layout.{line_departures}
use Rattle.line_split.proofs.departures.departures_of.Given as goal

abbrev pub invariant-loop-line : goal.invariant-loop-line
invariant-loop-line l = record {
  starts : l.starts.items ≡ map (λ k. length (flat_map (line_departures l.table) (take k l.lines))) (range_with_len 0 l.line);
  departures : l.departures.items ≡ flat_map (line_departures l.table) (take l.line l.lines);
}

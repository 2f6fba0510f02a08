use Rattle.std.proofs.Common.{◌≡◌, length}
use Rattle.line_split.proofs.PatternsAmong.{AreTold}
use Rattle.line_split.proofs.patterns.patterns_among.Given as goal

abbrev pub invariant-loop-trip : goal.invariant-loop-trip
invariant-loop-trip l = record {
  long : length l.numbers.items ≡ length l.table.trips;
  told : AreTold l.table l.sorted.items l.trips (length l.trips) l.trip-index l.numbers.items;
}

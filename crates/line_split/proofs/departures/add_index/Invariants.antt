use Rattle.std.proofs.Common.{◌≡◌, ◌++◌, take}
use Rattle.line_split.specs.Layout.{departures_at}
use Rattle.line_split.proofs.departures.add_index.Given as goal

abbrev pub invariant-loop-trip : goal.invariant-loop-trip
invariant-loop-trip l = l.departures.items ≡ l.initial.departures.items ++ departures_at l.table (take l.trip-index l.trips) l.at

use Rattle.std.proofs.Common.{◌≡◌, map}
use Rattle.std.specs.Prelude.{All}
use Rattle.std.specs.List.{range_with_len}
use Rattle.line_split.specs.Orders.{IsTimed}
use Rattle.line_split.proofs.TimedTrips.{trip_of}
use Rattle.line_split.proofs.order.all_timed.Given as goal

abbrev pub invariant-loop-trip : goal.invariant-loop-trip
invariant-loop-trip l = record {
  trips : map trip_of l.timed.items ≡ range_with_len 0 l.trip;
  timed : All (IsTimed l.table) l.timed.items;
}

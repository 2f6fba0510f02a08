use Rattle.std.proofs.Common.{◌≡◌, map, take}
use Rattle.line_split.proofs.TimedTrips.{trip_of}
use Rattle.line_split.proofs.order.trips_of.Given as goal

abbrev pub invariant-loop-one : goal.invariant-loop-one
invariant-loop-one l = l.trips.items ≡ map trip_of (take l.one-index l.timed)

use Rattle.std.proofs.Common.{◌≡◌}
use Rattle.footpaths.specs.Stops.{stations}
use Rattle.trip_table.proofs.DayStations.{stations_by, stops_among}
use Rattle.trip_table.proofs.assemble.stations_of.Given as goal

abbrev pub invariant-loop-p : goal.invariant-loop-p
invariant-loop-p l = l.stations.items ≡ stations_by (stops_among l.stops l.p) 0 (stations l.stops)

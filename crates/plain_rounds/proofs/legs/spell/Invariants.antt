use Rattle.std.proofs.Common.{◌≡◌, ◌<◌, ◌++◌, length, map, drop}
use Rattle.plain_rounds.specs.Rounds.{ride_of}
use Rattle.plain_rounds.proofs.LegLemmas.{legs_from}
use Rattle.plain_rounds.proofs.legs.spell.Given as goal

abbrev pub invariant-loop-ride : goal.invariant-loop-ride
invariant-loop-ride l = record {
  stop : l.at < length l.table.stops;
  legs : l.legs.items ++ legs_from l.table l.at (map ride_of (drop l.ride-index l.rides)) l.target ≡ legs_from l.table l.fn.origin (map ride_of l.rides) l.target;
}

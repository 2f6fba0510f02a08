use Rattle.std.proofs.Common.{◌-◌, length}
use Rattle.reach_all.proofs.Departing.{AreFirst}
use Rattle.reach_all.proofs.departures.departure_times.Given as goal

abbrev pub invariant-loop-time : goal.invariant-loop-time
invariant-loop-time l = AreFirst l.departures l.times.items l.time

abbrev pub decreases-loop-time : goal.decreases-loop-time
decreases-loop-time l = 360000 - length l.times.items

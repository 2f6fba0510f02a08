use Rattle.service_trips.specs.Chains.{AreChains}
use Rattle.service_trips.proofs.chains.TripChains.new.Given as goal

abbrev pub invariant-loop-i : goal.invariant-loop-i
invariant-loop-i l = AreChains l.rows l.i l.fn.trips l.last.items l.earlier.items

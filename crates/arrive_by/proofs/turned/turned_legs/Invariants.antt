use Rattle.std.proofs.Common.{◌≡◌, take}
use Rattle.edition_store.specs.TurnedJourneys.{turn_legs}
use Rattle.arrive_by.proofs.turned.turned_legs.Given as goal

abbrev pub invariant-loop-i : goal.invariant-loop-i
invariant-loop-i l = l.turned.items ≡ take l.i (turn_legs l.mirrored.table l.legs)

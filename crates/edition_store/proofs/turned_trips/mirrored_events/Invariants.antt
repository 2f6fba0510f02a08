use Rattle.std.proofs.Common.{◌≡◌, take}
use Rattle.edition_store.specs.Mirror.{mirror_events}
use Rattle.edition_store.proofs.turned_trips.mirrored_events.Given as goal

abbrev pub invariant-loop-i : goal.invariant-loop-i
invariant-loop-i l = l.mirrored.items ≡ take l.i (mirror_events l.events)

use Rattle.std.proofs.Common.{◌≡◌, map, take}
use Rattle.edition_store.specs.Mirror.{mirror_trip}
use Rattle.edition_store.proofs.turned_trips.mirrored_trips.Given as goal

abbrev pub invariant-loop-t : goal.invariant-loop-t
invariant-loop-t l = l.trips.items ≡ map mirror_trip (take l.t l.table.trips)

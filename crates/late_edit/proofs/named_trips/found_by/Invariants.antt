use Rattle.std.proofs.Common.{◌≡◌, map, take}
use Rattle.late_edit.specs.Amended.{trip_named}
use Rattle.late_edit.proofs.named_trips.found_by.Given as goal

abbrev pub invariant-loop-update : goal.invariant-loop-update
invariant-loop-update l = l.named.items ≡ map (trip_named l.table.trips) (take l.update-index l.updates)

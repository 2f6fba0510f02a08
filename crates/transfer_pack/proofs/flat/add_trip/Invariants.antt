use Rattle.std.proofs.Common.{◌≡◌, ◌++◌, map, take}
use Rattle.transfer_pack.specs.CallsOf.{call_of}
use Rattle.transfer_pack.specs.PackedCalls.{calls_in}
use Rattle.transfer_pack.proofs.flat.add_trip.Given as goal

abbrev pub invariant-loop-event : goal.invariant-loop-event
invariant-loop-event l = calls_in l.spots.items ≡ calls_in l.initial.spots.items ++ map call_of (take l.event-index l.events)

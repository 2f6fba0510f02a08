use Rattle.std.proofs.Common.{◌≡◌, ◌++◌, List, length, take}
use Rattle.tb_base.specs.declared.transfer.Hop.{Hop}
use Rattle.transfer_pack.specs.Adding.{AddsEvents}
use Rattle.transfer_pack.specs.Packed.{AreBounds, hops_before, packed}
use Rattle.transfer_pack.specs.Spots.{ends_in}
use Rattle.transfer_pack.proofs.trip_spots.add_kept_spots.Given as goal

abbrev pub invariant-loop-at : goal.invariant-loop-at
invariant-loop-at l = (hops : List Hop) → length hops ≡ l.first → AreBounds (ends_in l.initial.spots.items) (length hops) → AddsEvents (packed l.kept l.fn.trip) (take l.at l.events) hops (hops ++ hops_before (packed l.kept) l.fn.trip 0 l.at) l.initial.spots.items l.spots.items

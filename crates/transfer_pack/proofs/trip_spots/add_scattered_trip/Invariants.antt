use Rattle.std.proofs.Common.{take}
use Rattle.tb_base.specs.OutSets.{hops_at}
use Rattle.transfer_pack.specs.Adding.{AddsEvents}
use Rattle.transfer_pack.proofs.trip_spots.add_scattered_trip.Given as goal

abbrev pub invariant-loop-at : goal.invariant-loop-at
invariant-loop-at l = AddsEvents (hops_at l.row) (take l.at l.events) l.initial.hops l.hops l.initial.spots.items l.spots.items

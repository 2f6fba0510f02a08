use Rattle.std.proofs.Common.{take}
use Rattle.tb_base.specs.OutSets.{hops_at}
use Rattle.transfer_pack.specs.Adding.{AddsEvents}
use Rattle.transfer_pack.specs.Descending.{AreLeft}
use Rattle.transfer_pack.proofs.trip_spots.add_descending_trip.Given as goal

abbrev pub invariant-loop-at : goal.invariant-loop-at
invariant-loop-at l = record {
  left : AreLeft l.row l.at l.left;
  added : AddsEvents (hops_at l.row) (take l.at l.events) l.initial.hops l.hops l.initial.spots.items l.spots.items;
}

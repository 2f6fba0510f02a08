use Rattle.std.proofs.Common.{Bool, sym, subst}
use Rattle.std.specs.Prelude.{OnOk, if◌then◌else◌}
use Rattle.tb_base.specs.OutSets.{hops_at}
use Rattle.transfer_pack.specs.Adding.{AddsEvents}
use Rattle.transfer_pack.specs.Packed.{packed}
use Rattle.transfer_pack.proofs.trip_spots.add_rebuilt_trip.Goals as goal

pub returns-then-redone : goal.returns-then-redone
returns-then-redone c =
    subst (λ (b : Bool). OnOk c.add_trip.result (AddsEvents (λ i. if b then hops_at c.args.row.now i else packed c.args.kept.now c.args.trip i) c.args.events.now c.args.hops.now c.add_trip.new.hops c.args.spots.now.items c.add_trip.new.spots.items))
    (sym c.if-redone.true) c.add_trip.ensures

pub returns-else-redone : goal.returns-else-redone
returns-else-redone c =
    subst (λ (b : Bool). OnOk c.add_kept_trip.result (AddsEvents (λ i. if b then hops_at c.args.row.now i else packed c.args.kept.now c.args.trip i) c.args.events.now c.args.hops.now c.add_kept_trip.new.hops c.args.spots.now.items c.add_kept_trip.new.spots.items))
    (sym c.if-redone.false) c.add_kept_trip.ensures

use Rattle.tb_base.specs.OutSets.{hops_at}
use Rattle.transfer_pack.proofs.Packing.{all_added, event_added}
use Rattle.transfer_pack.proofs.trip_spots.add_descending_trip.Goals as goal

pub loop-at-preserved : goal.loop-at-preserved
loop-at-preserved c = record {
  left = c.in_ok-left.ensures.left;
  added = event_added (hops_at c.args.row.now) c.args.events.now _ c.loop-at.at c.args.hops.now c.loop-at.hops c.add_last.new.hops c.args.spots.now.items c.loop-at.spots.items c.add_spot.new.spots.items
      c.loop-at.invariant.added c.loop-at-test.true c.index-events-at.is c.in_ok-left.ensures.hops c.in_ok-add_spot.ensures.ends c.in_ok-add_spot.ensures.calls;
}

pub returns : goal.returns
returns c =
    all_added (hops_at c.args.row.now) c.args.events.now c.loop-at.at c.args.hops.now c.loop-at.hops c.args.spots.now.items c.loop-at.spots.items c.loop-at.invariant.added c.loop-at-test.false

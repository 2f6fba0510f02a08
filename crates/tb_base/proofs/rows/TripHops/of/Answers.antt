use Rattle.std.proofs.Common.{◌<◌, length, length-set, sym, subst}
use Rattle.tb_base.specs.declared.transfer.Transfer.{Transfer}
use Rattle.tb_base.proofs.Listing.{hop_listed}
use Rattle.tb_base.proofs.rows.TripHops.of.Goals as goal

pub loop-k-preserved : goal.loop-k-preserved
loop-k-preserved c =
    let long = c.loop-k.invariant.long in
    let below : c.index-row-k.result.at < length c.loop-k.hops = rw long (subst (λ (r : Transfer). r.at < c.args.events) (sym c.index-row-k.is) (c.requires c.loop-k.k c.index-row-k.result c.loop-k-test.true)) in
    record {
      long = rw c.in_ok-add.ensures (simp length-set long);
      hops = hop_listed c.args.row.now c.loop-k.k c.index-row-k.result c.loop-k.hops c.add.new.self c.loop-k-test.true c.index-row-k.is below c.in_ok-add.ensures c.loop-k.invariant.hops;
    }

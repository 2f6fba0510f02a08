use Rattle.std.proofs.Common.{arith}
use Rattle.transfer_pack.proofs.Descents.{one_lower}
use Rattle.transfer_pack.proofs.trip_hops.descend.Goals as goal

pub loop-k-preserved : goal.loop-k-preserved
loop-k-preserved c =
    one_lower c.args.row.now c.loop-k.k _ _ (omega arith) (omega arith) c.if-row-k.false c.loop-k.invariant

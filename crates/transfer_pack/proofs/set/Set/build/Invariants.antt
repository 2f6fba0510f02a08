use Rattle.std.proofs.Common.{length, map}
use Rattle.tb_base.specs.OutSets.{hops_at, row_of}
use Rattle.transfer_pack.specs.Packed.{AreBounds, runs_in}
use Rattle.transfer_pack.specs.Spots.{calls_beside, ends_in}
use Rattle.transfer_pack.proofs.Packing.{ArePacked}
use Rattle.transfer_pack.proofs.set.Set.build.Given as goal

abbrev pub invariant-loop-t : goal.invariant-loop-t
invariant-loop-t l = record {
  bounds : AreBounds (ends_in l.spots.items) (length l.hops);
  packed : ArePacked l.table (λ t. hops_at (row_of (map (λ row. row.items) l.rows) t)) l.t l.starts.items (runs_in l.hops (ends_in l.spots.items)) (calls_beside l.spots.items);
}

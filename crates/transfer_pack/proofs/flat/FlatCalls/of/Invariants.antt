use Rattle.std.proofs.Common.{◌≡◌, length, get_or}
use Rattle.transfer_pack.specs.Flat.{AreFlat}
use Rattle.transfer_pack.specs.PackedCalls.{calls_in}
use Rattle.transfer_pack.proofs.flat.FlatCalls.of.Given as goal

abbrev pub invariant-loop-t : goal.invariant-loop-t
invariant-loop-t l = record {
  flat : AreFlat l.table l.t l.bounds.items (calls_in l.spots.items);
  last : get_or l.bounds.items l.t 0 ≡ length (calls_in l.spots.items);
}

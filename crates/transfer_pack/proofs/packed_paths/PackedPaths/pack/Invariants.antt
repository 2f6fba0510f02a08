use Rattle.std.proofs.Common.{◌≡◌, length, get_or}
use Rattle.transfer_pack.specs.PackedRows.{ArePacked}
use Rattle.transfer_pack.proofs.packed_paths.PackedPaths.pack.Given as goal

abbrev pub invariant-loop-stop : goal.invariant-loop-stop
invariant-loop-stop l = record {
  packed : ArePacked l.rows l.stop l.bounds.items l.paths.items;
  last : get_or l.bounds.items l.stop 0 ≡ length l.paths.items;
}

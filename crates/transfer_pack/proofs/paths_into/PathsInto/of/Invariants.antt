use Rattle.std.proofs.Common.{◌≡◌, ◌<◌, ℕ, [], length, get_or, take}
use Rattle.std.specs.Prelude.{sum_by}
use Rattle.transfer_pack.specs.TurnedPaths.{turned_into}
use Rattle.transfer_pack.proofs.paths_into.PathsInto.of.Given as goal

abbrev pub invariant-loop-p : goal.invariant-loop-p
invariant-loop-p l = record {
  stops : length l.rows ≡ length l.table.stops;
  rows : (q : ℕ) → q < length l.table.stops → get_or l.rows q [] ≡ turned_into l.table.footpaths.paths q l.p;
  total : sum_by (λ row. length row) l.rows ≡ sum_by (λ row. length row) (take l.p l.table.footpaths.paths);
}

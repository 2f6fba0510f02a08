use Rattle.std.proofs.Common.{◌≡◌, ◌+◌, ◌++◌, ℕ, [], length, get_or, take}
use Rattle.std.specs.Prelude.{sum_by}
use Rattle.transfer_pack.specs.TurnedPaths.{turned}
use Rattle.transfer_pack.proofs.paths_into.PathsInto.add_turned.Given as goal

abbrev pub invariant-loop-path : goal.invariant-loop-path
invariant-loop-path l = record {
  stops : length l.self ≡ length l.fn.self;
  rows : (q : ℕ) → get_or l.self q [] ≡ get_or l.fn.self q [] ++ turned l.p q (take l.path-index l.paths);
  total : sum_by (λ row. length row) l.self ≡ sum_by (λ row. length row) l.fn.self + l.path-index;
}

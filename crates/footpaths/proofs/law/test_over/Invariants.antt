use Rattle.std.proofs.Common.{◌<◌, ℕ, [], get_or}
use Rattle.tb_base.specs.declared.table.Path.{Path}
use Rattle.footpaths.specs.Law.{IsGood}
use Rattle.footpaths.proofs.law.test_over.Given as goal

abbrev pub invariant-loop-second : goal.invariant-loop-second
invariant-loop-second l = (j : ℕ) (d : Path) → j < l.second-index → IsGood l.paths l.p l.first.to (Path.to (get_or (get_or l.paths.paths l.first.to []) j d))

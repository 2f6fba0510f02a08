use Rattle.std.proofs.Common.{◌<◌, ℕ, [], get_or}
use Rattle.tb_base.specs.declared.table.Path.{Path}
use Rattle.footpaths.specs.Law.{IsGood}
use Rattle.footpaths.proofs.law.test_from.Given as goal

abbrev pub invariant-loop-first : goal.invariant-loop-first
invariant-loop-first l = (j : ℕ) (d : Path) (r : ℕ) → j < l.first-index → IsGood l.paths l.p (Path.to (get_or (get_or l.paths.paths l.p []) j d)) r

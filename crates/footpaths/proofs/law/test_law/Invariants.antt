use Rattle.std.proofs.Common.{◌<◌, ℕ}
use Rattle.footpaths.specs.Law.{IsGood}
use Rattle.footpaths.proofs.law.test_law.Given as goal

abbrev pub invariant-loop-p : goal.invariant-loop-p
invariant-loop-p l = (a b c : ℕ) → a < l.p → IsGood l.paths a b c

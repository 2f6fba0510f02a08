use Rattle.std.proofs.Common.{◌≡◌, ℕ, length, take}
use Rattle.std.specs.Prelude.{◌==◌}
use Rattle.std.specs.List.{list_any}
use Rattle.footpaths.specs.BestRules.{slot, marked}
use Rattle.footpaths.proofs.best_rules.BestRules.mark_all.Given as goal

abbrev pub invariant-loop-stop : goal.invariant-loop-stop
invariant-loop-stop l = record {
  many : length l.self ≡ length l.fn.self;
  marked : (p : ℕ) → slot l.self p ≡ marked (list_any (λ m. m == p) (take l.stop-index l.stops)) (slot l.fn.self p) l.rank l.secs;
}

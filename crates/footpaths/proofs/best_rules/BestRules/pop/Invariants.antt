use Rattle.std.proofs.Common.{◌≡◌, length}
use Rattle.footpaths.specs.BestRules.{IsCovered}
use Rattle.footpaths.proofs.best_rules.BestRules.pop.Given as goal

abbrev pub invariant-loop-stop : goal.invariant-loop-stop
invariant-loop-stop l = IsCovered l.self-inside.slots.items l.self-inside.touched.items × (l.self-inside.slots.items ≡ l.initial.self-inside.slots.items)

abbrev pub decreases-loop-stop : goal.decreases-loop-stop
decreases-loop-stop l = length l.self-inside.touched.items

use Rattle.std.proofs.Common.{◌≡◌, take}
use Rattle.std.specs.Prelude.{filter_map}
use Rattle.foot_close.specs.Searching.{mark, reached_at}
use Rattle.foot_close.proofs.search.ChainSearch.reached.Given as goal

abbrev pub invariant-loop-place : goal.invariant-loop-place
invariant-loop-place l = l.reached.items ≡ filter_map (λ q. reached_at q (mark l.self.marks q)) (take l.place l.self.lowered)

use Rattle.std.proofs.Common.{◌+◌, ◌-◌, length}
use Rattle.foot_close.specs.Searching.{height}
use Rattle.foot_close.proofs.SearchLaws.{IsSearch}
use Rattle.foot_close.proofs.search.ChainSearch.run.Given as goal

abbrev pub invariant-loop-next : goal.invariant-loop-next
invariant-loop-next l = IsSearch l.paths l.fn.from l.self l.next

abbrev pub decreases-loop-next : goal.decreases-loop-next
decreases-loop-next l = height l.self.marks + (length l.self.waiting - l.next)

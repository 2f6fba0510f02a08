use Rattle.std.proofs.Common.{take}
use Rattle.foot_close.specs.Searching.{IsRelaxed}
use Rattle.foot_close.proofs.search.ChainSearch.relax_all.Given as goal

abbrev pub invariant-loop-path : goal.invariant-loop-path
invariant-loop-path l = IsRelaxed (take l.path-index l.row) l.secs l.fn.self l.self

use Rattle.std.proofs.Common.{◌≡◌, [], length}
use Rattle.foot_close.specs.Searching.{IsCovered}
use Rattle.foot_close.proofs.search.ChainSearch.clear.Given as goal

abbrev pub invariant-loop-stop : goal.invariant-loop-stop
invariant-loop-stop l = record {
  covered : IsCovered l.self-inside.marks.items l.self-inside.lowered.items;
  many : length l.self-inside.marks.items ≡ length l.initial.self-inside.marks.items;
  waiting : l.self-inside.waiting.items ≡ [];
}

abbrev pub decreases-loop-stop : goal.decreases-loop-stop
decreases-loop-stop l = length l.self-inside.lowered.items

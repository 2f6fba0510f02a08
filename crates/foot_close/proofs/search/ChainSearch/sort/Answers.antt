use Rattle.std.proofs.Common.{eqb, subst, sym}
use Rattle.std.specs.List.Sorted.{IsStrictlyIncreasing}
use Rattle.std.proofs.lemmas.List.Filters.{dedup_is}
use Rattle.std.proofs.lemmas.Map.Keys.{IsStrictlyIncreasing-dedup}
use Rattle.foot_close.proofs.ReachedLaws.{covered_sorted}
use Rattle.foot_close.proofs.search.ChainSearch.sort.Goals as goal

pub invariant_of-self : goal.invariant_of-self
invariant_of-self c = (
  covered_sorted c.self.inside.marks.items c.self.inside.lowered.items c.sort_unstable.new.self.items c.dedup.new.self.items c.self.invariant.0 c.sort_unstable.ensures.permutation
      (dedup_is eqb c.sort_unstable.new.self.items c.dedup.new.self.items c.dedup.ensures.filtered),
  c.self.invariant.1,
)

pub returns-clause-ascending : goal.returns-clause-ascending
returns-clause-ascending c =
    subst IsStrictlyIncreasing (sym (dedup_is eqb c.sort_unstable.new.self.items c.dedup.new.self.items c.dedup.ensures.filtered))
    (IsStrictlyIncreasing-dedup c.sort_unstable.new.self.items c.sort_unstable.ensures.sorted)

pub returns-clause-covered : goal.returns-clause-covered
returns-clause-covered c =
    covered_sorted c.self.inside.marks.items c.self.inside.lowered.items c.sort_unstable.new.self.items c.dedup.new.self.items c.self.invariant.0 c.sort_unstable.ensures.permutation
    (dedup_is eqb c.sort_unstable.new.self.items c.dedup.new.self.items c.dedup.ensures.filtered)

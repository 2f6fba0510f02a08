use Rattle.std.proofs.Common.{rules}
use Rattle.std.proofs.lemmas.Fn.{always_returns_same}
use Rattle.line_split.specs.Patterns.{pattern_precedes}
use Rattle.line_split.proofs.PatternLemmas.{pattern_ranks}
use Rattle.line_split.proofs.patterns.by_pattern.Goals as goal

pub returns-clause-sorted : goal.returns-clause-sorted
returns-clause-sorted c = c.sort_unstable_by.ensures.sorted (pattern_precedes c.args.table.now) (pattern_ranks c.args.table.now) (always_returns_same _ _ _ (λ a r f h. search rules))

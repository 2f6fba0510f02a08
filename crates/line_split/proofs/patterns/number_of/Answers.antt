use Rattle.std.proofs.Common.{arith}
use Rattle.line_split.specs.Patterns.{pattern_precedes}
use Rattle.line_split.proofs.PatternLemmas.{filter_below}
use Rattle.line_split.proofs.patterns.number_of.Goals as goal

pub overflow_add-result : goal.overflow_add-result
overflow_add-result c =
    let low = filter_below (λ u. pattern_precedes c.args.table.now u c.args.trip) c.args.others.now in
    omega (arith, low, c.earlier_patterns.ensures, c.requires.fits)

use Rattle.std.proofs.Common.{rules}
use Rattle.std.proofs.lemmas.List.Sorted.{IsPartitionPoint-from_clause}
use Rattle.line_split.specs.Patterns.{pattern_precedes}
use Rattle.line_split.proofs.PatternLemmas.{counted, pattern_partitioned}
use Rattle.line_split.proofs.patterns.earlier_patterns.Goals as goal

pub returns : goal.returns
returns c =
    let T = c.args.table.now in
    counted (λ u. pattern_precedes T u c.args.trip) c.args.others.now c.partition_point.result c.partition_point.ensures.bound
    (IsPartitionPoint-from_clause (λ u. pattern_precedes T u c.args.trip) _ _ c.partition_point.ensures.partitioned (pattern_partitioned T c.args.others.now c.args.trip c.requires) (λ a r f h. search rules))

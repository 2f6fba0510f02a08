use Rattle.earliest_query.specs.Bounding.{IsBestBefore}
use Rattle.earliest_query.proofs.swept_riding.best_before.Given as goal

abbrev pub invariant-loop-value : goal.invariant-loop-value
invariant-loop-value l = IsBestBefore l.desk.hits l.values l.round l.best

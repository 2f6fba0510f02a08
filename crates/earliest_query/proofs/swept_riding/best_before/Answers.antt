use Rattle.std.proofs.Common.{sym, subst}
use Rattle.earliest_query.specs.Bounding.{IsBestBefore}
use Rattle.earliest_query.proofs.Following.{contains_at}
use Rattle.earliest_query.proofs.SweptRounds.{best_at_start, best_more}
use Rattle.earliest_query.proofs.swept_riding.best_before.Goals as goal

pub loop-value-init : goal.loop-value-init
loop-value-init c =
    subst (IsBestBefore c.args.desk.now.hits c.args.values.now c.args.round) (sym c.last_hit-best.ensures)
    (best_at_start c.args.desk.now.hits c.args.values.now c.args.round c.requires.fewer)

pub loop-value-preserved : goal.loop-value-preserved
loop-value-preserved c =
    subst (IsBestBefore c.args.desk.now.hits c.args.values.now c.args.round) (sym c.earlier_of-best.ensures)
    (best_more c.args.desk.now.hits c.args.values.now c.args.round c.loop-value.best _ c.requires.some_round (contains_at c.args.values.now c.loop-value.value-index _ c.loop-value-test.true) c.loop-value.invariant)

use Rattle.std.proofs.Common.{◌++◌, ◌∷◌, [], take, sym, ap, ◌∙◌, subst, arith}
use Rattle.std.proofs.lemmas.List.{take_all, take_more}
use Rattle.earliest_query.specs.Choices.{IsNearest}
use Rattle.earliest_query.proofs.Nearest.{nearest_more, nearer_within}
use Rattle.earliest_query.proofs.walks.nearest.Goals as goal

pub loop-target-preserved : goal.loop-target-preserved
loop-target-preserved g c = record {
  nearest = rw (c.nearer-best.ensures, c.walk_secs-secs.ensures.walk) (nearest_more (g.S.Scan.net c.args.scan.now).table c.args.p c.args.targets.now c.loop-target.target-index c.target-item.result c.loop-target.best
      (take_more c.args.targets.now c.loop-target.target-index c.target-item.result c.loop-target-test.true ∙ ap (λ x. take c.loop-target.target-index c.args.targets.now ++ x ∷ []) (sym c.target-item.is)) c.loop-target.invariant.nearest);
  at_most_a_day = rw c.nearer-best.ensures (nearer_within c.loop-target.best c.target-item.result c.walk_secs-secs.result c.loop-target.invariant.at_most_a_day c.walk_secs-secs.ensures.at_most_a_day);
}

pub returns-clause-nearest : goal.returns-clause-nearest
returns-clause-nearest g c =
    subst (λ xs. IsNearest (g.S.Scan.net c.args.scan.now).table c.args.p xs c.loop-target.best) (take_all c.loop-target.target-index c.args.targets.now (omega arith)) c.loop-target.invariant.nearest

use Rattle.std.proofs.Common.{sym, subst, ap, ◌∙◌}
use Rattle.earliest_query.specs.Choices.{IsNearestTarget, IsWeighed, earlier_hit}
use Rattle.earliest_query.proofs.BestSoFar.{weighed_nearest}
use Rattle.earliest_query.proofs.search.Search.weigh_near.Goals as goal

pub returns : goal.returns
returns g c =
    let T = (g.S.Scan.net c.args.self.now.scan.now).table in
    let target = subst (λ xs. IsNearestTarget T c.args.visit.now.stop xs c.in-Some.path.to c.in-Some.path.secs) c.targets.ensures c.in-Some.ensures.nearest in
    subst (λ o. IsWeighed T c.args.self.now.query.now c.args.visit.now.stop c.args.visit.now.arr c.args.visit.now.alight c.args.entry c.args.at c.args.round c.args.best.now o)
    (sym (c.earlier.ensures ∙ ap (λ h. earlier_hit c.args.best.now h) c.alighting.ensures))
    (weighed_nearest T c.args.self.now.query.now c.args.visit.now.stop c.args.visit.now.arr c.args.visit.now.alight c.args.entry c.args.at c.args.round c.args.best.now c.in-Some.path c.requires.alight target)

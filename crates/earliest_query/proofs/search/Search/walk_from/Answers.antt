use Rattle.std.proofs.Common.{sym, subst, ap, ◌∙◌}
use Rattle.earliest_query.specs.Choices.{IsNearestTarget, IsWalked, earlier_hit}
use Rattle.earliest_query.proofs.BestSoFar.{walked_nearest}
use Rattle.earliest_query.proofs.search.Search.walk_from.Goals as goal

pub returns-in-Some : goal.returns-in-Some
returns-in-Some g c =
    let T = (g.S.Scan.net c.args.self.now.scan.now).table in
    let target = subst (λ xs. IsNearestTarget T c.args.origin xs c.in-Some.path.to c.in-Some.path.secs) c.targets.ensures c.in-Some.ensures.nearest in
    subst (IsWalked T c.args.self.now.query.now c.args.origin c.args.best) (sym (c.earlier.ensures ∙ ap (λ h. earlier_hit c.args.best h) c.walking.ensures))
    (walked_nearest T c.args.self.now.query.now c.args.origin c.args.best c.in-Some.path target)

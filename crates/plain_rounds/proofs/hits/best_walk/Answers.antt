use Rattle.std.proofs.Common.{◌≡◌, length, arith, get_or}
use Rattle.std.proofs.lemmas.List.Elements.{at_read}
use Rattle.plain_rounds.specs.Hits.{IsEarliest, IsHitFrom, IsDueFrom}
use Rattle.plain_rounds.proofs.HitLemmas.{earliest-more, earliest-contained}
use Rattle.plain_rounds.proofs.hits.best_walk.Goals as goal

pub loop-origin-preserved : goal.loop-origin-preserved
loop-origin-preserved c =
    let T = c.args.table.now in
    let targets = c.args.targets.now in
    let found = c.hit_from-found.result in
    earliest-more (λ k h. IsHitFrom T targets (get_or c.args.origins.now k 0) c.args.start h) (λ k t. IsDueFrom T targets (get_or c.args.origins.now k 0) c.args.start t) c.loop-origin.origin-index c.loop-origin.best found c.earlier_hit-best.result
    c.earlier_hit-best.ensures.one c.earlier_hit-best.ensures.first c.earlier_hit-best.ensures.second c.loop-origin.invariant
    (at_read c.args.origins.now (λ o. IsEarliest (IsHitFrom T targets o c.args.start) (IsDueFrom T targets o c.args.start) found) c.loop-origin.origin-index c.origin-item.result c.loop-origin-test.true c.origin-item.is c.hit_from-found.ensures 0)

pub returns : goal.returns
returns c =
    let all : c.loop-origin.origin-index ≡ length c.args.origins.now = omega arith in
    earliest-contained (λ o h. IsHitFrom c.args.table.now c.args.targets.now o c.args.start h) (λ o t. IsDueFrom c.args.table.now c.args.targets.now o c.args.start t) c.args.origins.now c.loop-origin.origin-index all c.loop-origin.best c.loop-origin.invariant

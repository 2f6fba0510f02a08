use Rattle.std.proofs.Common.{◌≡◌, ◌<◌, ℕ, length, arith, subst}
use Rattle.std.specs.Prelude.{IsSomeAnd}
use Rattle.plain_rounds.specs.Hits.{IsEarliest, IsHitFrom, IsDueFrom, IsHitOf, IsDueOf}
use Rattle.plain_rounds.specs.Labels.{label_at}
use Rattle.plain_rounds.proofs.HitLemmas.{earliest-more, earliest-same}
use Rattle.plain_rounds.proofs.hits.best_hit.Goals as goal

pub loop-p-preserved : goal.loop-p-preserved
loop-p-preserved c =
    let T = c.args.table.now in
    let targets = c.args.targets.now in
    let labels = c.args.labels.now in
    let found = c.hit_from_if-found.result in
    earliest-more (λ p h. IsSomeAnd (label_at labels p) (λ m. IsHitFrom T targets p m h)) (λ p t. IsSomeAnd (label_at labels p) (λ m. IsDueFrom T targets p m t)) c.loop-p.p c.loop-p.best found c.earlier_hit-best.result
    c.earlier_hit-best.ensures.one c.earlier_hit-best.ensures.first c.earlier_hit-best.ensures.second c.loop-p.invariant
    (subst (λ i. IsEarliest (λ h. IsSomeAnd (label_at labels i) (λ m. IsHitFrom T targets c.loop-p.p m h)) (λ t. IsSomeAnd (label_at labels i) (λ m. IsDueFrom T targets c.loop-p.p m t)) found) c.index.ensures c.hit_from_if-found.ensures)

pub returns : goal.returns
returns c =
    let T = c.args.table.now in
    let targets = c.args.targets.now in
    let labels = c.args.labels.now in
    let all : c.loop-p.p ≡ length T.stops = omega arith in
    earliest-same (λ h. (p : ℕ) × (p < c.loop-p.p) × IsSomeAnd (label_at labels p) (λ m. IsHitFrom T targets p m h)) (IsHitOf T targets labels) (λ t. (p : ℕ) × (p < c.loop-p.p) × IsSomeAnd (label_at labels p) (λ m. IsDueFrom T targets p m t)) (IsDueOf T targets labels)
    (λ h k. (k.0, omega (arith, all, k.1), k.2)) (λ t k. (k.0, omega (arith, all, k.1), k.2)) c.loop-p.best c.loop-p.invariant

use Rattle.std.proofs.Common.{ℕ, ◌<◌}
use Rattle.std.specs.Prelude.{IsSomeAnd}
use Rattle.plain_rounds.specs.Hits.{IsEarliest, IsHitFrom, IsDueFrom}
use Rattle.plain_rounds.specs.Labels.{label_at}
use Rattle.plain_rounds.proofs.hits.best_hit.Given as goal

abbrev pub invariant-loop-p : goal.invariant-loop-p
invariant-loop-p l = IsEarliest (λ h. (p : ℕ) × (p < l.p) × IsSomeAnd (label_at l.labels p) (λ m. IsHitFrom l.table l.targets p m h)) (λ t. (p : ℕ) × (p < l.p) × IsSomeAnd (label_at l.labels p) (λ m. IsDueFrom l.table l.targets p m t)) l.best

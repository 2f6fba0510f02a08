use Rattle.std.proofs.Common.{ℕ, ◌<◌, get_or}
use Rattle.plain_rounds.specs.Hits.{IsEarliest, IsHitFrom, IsDueFrom}
use Rattle.plain_rounds.proofs.hits.best_walk.Given as goal

abbrev pub invariant-loop-origin : goal.invariant-loop-origin
invariant-loop-origin l = IsEarliest (λ h. (k : ℕ) × (k < l.origin-index) × IsHitFrom l.table l.targets (get_or l.origins k 0) l.start h) (λ t. (k : ℕ) × (k < l.origin-index) × IsDueFrom l.table l.targets (get_or l.origins k 0) l.start t) l.best

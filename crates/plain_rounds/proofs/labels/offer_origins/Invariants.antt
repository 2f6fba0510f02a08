use Rattle.std.proofs.Common.{◌≡◌, ℕ, ◌<◌, get_or}
use Rattle.std.specs.Prelude.{IsSomeAnd}
use Rattle.tb_base.specs.Walking.{walk}
use Rattle.plain_rounds.specs.Labels.{Takes, later}
use Rattle.plain_rounds.proofs.labels.offer_origins.Given as goal

abbrev pub invariant-loop-origin : goal.invariant-loop-origin
invariant-loop-origin l = Takes l.fn.labels l.labels (λ q x. (k : ℕ) × (k < l.origin-index) × IsSomeAnd (walk l.table (get_or l.origins k 0) q) (λ secs. x ≡ later l.start secs))

use Rattle.std.proofs.Common.{◌≡◌, ℕ, ◌<◌}
use Rattle.std.specs.Prelude.{IsSomeAnd}
use Rattle.tb_base.specs.Walking.{change}
use Rattle.plain_rounds.specs.Labels.{Takes, label_at, later}
use Rattle.plain_rounds.proofs.labels.offer_all_changes.Given as goal

abbrev pub invariant-loop-p : goal.invariant-loop-p
invariant-loop-p l = Takes l.fn.labels l.labels (λ q x. (p : ℕ) × (p < l.p) × IsSomeAnd (label_at l.arrived p) (λ m. IsSomeAnd (change l.table p q) (λ secs. x ≡ later m secs)))

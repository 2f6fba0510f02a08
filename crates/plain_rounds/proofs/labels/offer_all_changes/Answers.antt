use Rattle.std.proofs.Common.{◌≡◌, subst}
use Rattle.std.specs.Prelude.{IsSomeAnd}
use Rattle.tb_base.specs.Walking.{change}
use Rattle.plain_rounds.specs.Labels.{Takes, later, label_at}
use Rattle.plain_rounds.proofs.TakesLemmas.{Takes-more}
use Rattle.plain_rounds.proofs.labels.offer_all_changes.Goals as goal

pub loop-p-preserved : goal.loop-p-preserved
loop-p-preserved c =
    Takes-more c.args.labels.now c.loop-p.labels c.offer_changes_if.new.labels (λ p q x. IsSomeAnd (label_at c.args.arrived.now p) (λ m. IsSomeAnd (change c.args.table.now p q) (λ secs. x ≡ later m secs))) c.loop-p.p c.loop-p.invariant
    (subst (λ i. Takes c.loop-p.labels c.offer_changes_if.new.labels (λ q x. IsSomeAnd (label_at c.args.arrived.now i) (λ m. IsSomeAnd (change c.args.table.now c.loop-p.p q) (λ secs. x ≡ later m secs)))) c.index.ensures c.offer_changes_if.ensures)

use Rattle.std.proofs.Common.{◌≡◌, sym, subst}
use Rattle.std.specs.Prelude.{IsSomeAnd}
use Rattle.tb_base.specs.Walking.{change}
use Rattle.plain_rounds.specs.Labels.{Takes, later}
use Rattle.plain_rounds.proofs.labels.offer_changes_if.Goals as goal

pub returns-in-Some : goal.returns-in-Some
returns-in-Some c =
    subst (λ o. Takes c.args.labels.now c.offer_changes.new.labels (λ q l. IsSomeAnd o (λ m. IsSomeAnd (change c.args.table.now c.args.from q) (λ secs. l ≡ later m secs)))) (sym c.in-Some.is) c.offer_changes.ensures

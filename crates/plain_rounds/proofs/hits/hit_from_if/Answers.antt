use Rattle.std.proofs.Common.{sym, subst}
use Rattle.std.specs.Prelude.{IsSomeAnd}
use Rattle.plain_rounds.specs.Hits.{IsEarliest, IsHitFrom, IsDueFrom}
use Rattle.plain_rounds.proofs.hits.hit_from_if.Goals as goal

pub returns-in-Some : goal.returns-in-Some
returns-in-Some c =
    subst (λ o. IsEarliest (λ h. IsSomeAnd o (λ l. IsHitFrom c.args.table.now c.args.targets.now c.args.stop l h)) (λ time. IsSomeAnd o (λ l. IsDueFrom c.args.table.now c.args.targets.now c.args.stop l time)) c.hit_from.result) (sym c.in-Some.is) c.hit_from.ensures

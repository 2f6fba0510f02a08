use Rattle.std.proofs.Common.{refl, ap, rules, w32, ◌∙◌}
use Rattle.std.specs.Prelude.{FitsSigned}
use Rattle.std.proofs.lemmas.Int.{to_z-of_z}
use Rattle.plain_rounds.specs.declared.labels.StopLabel.{StopLabel}
use Rattle.plain_rounds.proofs.HitLemmas.{nearest_hit}
use Rattle.plain_rounds.proofs.hits.hit_from.Goals as goal

pub returns-in-Some : goal.returns-in-Some
returns-in-Some c =
    let fits : FitsSigned w32 c.later-arrival.result.time = search rules in
    nearest_hit c.args.table.now c.args.targets.now c.args.stop c.args.label c.in-Some.near c.in-Some.ensures.nearest _ (to_z-of_z w32 c.later-arrival.result.time fits ∙ ap (λ (l : StopLabel). l.time) c.later-arrival.ensures) refl refl refl

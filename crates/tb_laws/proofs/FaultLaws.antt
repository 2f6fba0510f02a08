-- Legs that break a rule spell no journey.
use Rattle.std.proofs.Common.{ℕ, zero, suc, ◌<◌, List, [], ◌∷◌, length, refl, Option, None, Some}
use Rattle.std.specs.Prelude.{All}
use Rattle.tb_base.specs.declared.query.Leg.{Leg}
use Rattle.tb_base.specs.declared.rule.Rule.{Rule}
use Rattle.tb_base.specs.TimetableData.{TimetableData}
use Rattle.tb_base.specs.Soundness.{IsSound}
use Rattle.tb_base.specs.BestValues.{QueryData}
use Rattle.tb_base.specs.JourneyRules.{SpellJourney, KeepAllRules, IsFirstBroken, BreaksFirst}
use Rattle.tb_laws.proofs.RuleLaws.{rules_from_journey}

broken_is_not_kept : (T : TimetableData) (Q : QueryData) (previous earlier : Option Leg) (legs : List Leg) (n : ℕ) (rule : Rule) → IsFirstBroken T Q previous earlier legs n rule → KeepAllRules T Q previous earlier legs → ⊥
broken_is_not_kept T Q previous earlier [] n rule broken keep = broken
broken_is_not_kept T Q previous earlier (leg ∷ legs) zero rule broken keep = broken.1 (keep.0 rule)
broken_is_not_kept T Q previous earlier (leg ∷ legs) (suc n) rule broken keep = broken_is_not_kept T Q (Some leg) previous legs n rule broken.1 keep.1

pub first_broken_spells_none : (T : TimetableData) (Q : QueryData) → IsSound T → (legs : List Leg) → All (λ p. p < length T.stops) Q.from → (n : ℕ) (rule : Rule) → BreaksFirst T Q legs n rule → SpellJourney T Q legs → ⊥
first_broken_spells_none T Q sound [] inside n rule broken spell = let p = (rules_from_journey T Q sound [] inside spell).1 refl in broken.2 p.0 p.1 p.2
first_broken_spells_none T Q sound (leg ∷ legs) inside n rule broken spell = broken_is_not_kept T Q None None (leg ∷ legs) n rule broken (rules_from_journey T Q sound (leg ∷ legs) inside spell).0

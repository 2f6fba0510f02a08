-- What the first broken rule, or that none is broken, says of the legs.
use Rattle.std.proofs.Common.{◌≡◌, ◌≢◌, ◌<◌, ◌↔◌, List, [], ◌∷◌, length, Option, None, Some, refl, arith}
use Rattle.std.specs.Prelude.{All, IsNone, MatchOption}
use Rattle.tb_base.specs.declared.query.Leg.{Leg}
use Rattle.tb_base.specs.declared.rule.RuleBroken.{RuleBroken}
use Rattle.tb_base.specs.declared.rule.Rule.TheVariants.{WrongEnd}
use Rattle.tb_base.specs.TimetableData.{TimetableData}
use Rattle.tb_base.specs.Soundness.{IsSound}
use Rattle.tb_base.specs.BestValues.{QueryData}
use Rattle.tb_base.specs.JourneyRules.{BreaksFirst, IsFirstBroken, IsJourneyless, KeepAllRules, SpellJourney}
use Rattle.tb_laws.proofs.RuleLaws.{journey_from_rules}
use Rattle.tb_laws.proofs.FaultLaws.{first_broken_spells_none}
use Rattle.journey_read.specs.Known.{SharesAStop}

-- none, or a rule that the legs break first
abbrev pub IsFault : TimetableData → QueryData → List Leg → Option RuleBroken → Type 0
IsFault T Q legs r = MatchOption r (KeepAllRules T Q None None legs × (legs ≡ [] → SharesAStop Q.from Q.to)) (λ b. BreaksFirst T Q legs b.leg b.rule)

pub on_none : (T : TimetableData) (Q : QueryData) (legs : List Leg) (r : Option RuleBroken) → length legs ≡ 0 → MatchOption r (SharesAStop Q.from Q.to) (λ b. (b.leg ≡ 0) × (b.rule ≡ WrongEnd) × IsJourneyless Q) → IsFault T Q legs r
on_none T Q [] None none h = (tt, λ e. h)
on_none T Q [] (Some b) none h = h
on_none T Q (leg ∷ legs) r none h = absurd (omega (arith, none))

pub on_some : (T : TimetableData) (Q : QueryData) (legs : List Leg) (r : Option RuleBroken) → length legs ≢ 0 → MatchOption r (KeepAllRules T Q None None legs) (λ b. IsFirstBroken T Q None None legs b.leg b.rule) → IsFault T Q legs r
on_some T Q [] r some h = absurd (some refl)
on_some T Q (leg ∷ legs) None some h = (h, λ e. cc)
on_some T Q (leg ∷ legs) (Some b) some h = h

module _ (T : TimetableData) (Q : QueryData) (sound : IsSound T) (legs : List Leg) (inside : All (λ p. p < length T.stops) Q.from) where
  pub none_where_spelt : (r : Option RuleBroken) → IsFault T Q legs r → IsNone r ↔ SpellJourney T Q legs
  none_where_spelt None h = (λ e. journey_from_rules T Q legs h.0 h.1, λ spell. refl)
  none_where_spelt (Some b) h = (λ e. cc, λ spell. absurd (first_broken_spells_none T Q sound legs inside b.leg b.rule h spell))

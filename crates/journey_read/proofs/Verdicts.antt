-- A claim has one verdict.
use Rattle.std.proofs.Common.{◌≡◌, ◌∙◌, ℕ, zero, suc, ◌==◌, ◌<◌, ◌⊎◌, inl, inr, List, [], ◌∷◌, length, refl, sym, ap, arith, Option, None, Some}
use Rattle.std.specs.Prelude.{All, if◌then◌else◌}
use Rattle.tb_base.specs.declared.query.Leg.{Leg}
use Rattle.tb_base.specs.declared.rule.Rule.{Rule}
use Rattle.tb_base.specs.declared.rule.Rule.TheVariants.{BadNumber, TwoWalks, NoWalk, NoBoarding, NoAlighting, WrongStart, TooEarly, Apart, TooLate, WrongEnd}
use Rattle.tb_base.specs.declared.rule.RuleBroken.{RuleBroken}
use Rattle.tb_base.specs.BestValues.{ChoiceData, QueryData}
use Rattle.tb_base.specs.JourneyRules.{BreaksFirst, BreaksRule, IsFirstBroken, rule_number}
use Rattle.tb_base.specs.Soundness.{IsSound}
use Rattle.tb_base.specs.TimetableData.{TimetableData}
use Rattle.tb_laws.proofs.FaultLaws.{first_broken_spells_none}
use Rattle.journey_read.specs.Judging.{IsVerdict}
use Rattle.journey_read.specs.declared.verdict.Verdict.{Verdict}
use Rattle.journey_read.specs.declared.verdict.Verdict.TheVariants.{Broken, OtherValue, Yes}
use Rattle.journey_read.proofs.Values.{value_spelt}

-- the rule with a number
abbrev rule_at : ℕ → Rule
rule_at n = if n == 1 then BadNumber else if n == 2 then TwoWalks else if n == 3 then NoWalk else if n == 4 then NoBoarding else if n == 5 then NoAlighting else if n == 6 then WrongStart else if n == 7 then TooEarly else if n == 8 then Apart else if n == 9 then TooLate else WrongEnd

rule_is : (r : Rule) → rule_at (rule_number r) ≡ r
rule_is BadNumber = refl
rule_is TwoWalks = refl
rule_is NoWalk = refl
rule_is NoBoarding = refl
rule_is NoAlighting = refl
rule_is WrongStart = refl
rule_is TooEarly = refl
rule_is Apart = refl
rule_is TooLate = refl
rule_is WrongEnd = refl

less_more_or_same : (a b : ℕ) → (a < b) ⊎ ((b < a) ⊎ (a ≡ b))
less_more_or_same a b = grind arith

one_rule : (T : TimetableData) (Q : QueryData) (previous earlier : Option Leg) (leg : Leg) (after : List Leg) (r s : Rule) → BreaksRule T Q previous earlier leg after r → BreaksRule T Q previous earlier leg after s → r ≡ s
one_rule T Q previous earlier leg after r s x y = elim (less_more_or_same (rule_number r) (rule_number s)) [
  | inl less ↦ absurd (x.1 (y.0 r less))
  | inr (inl more) ↦ absurd (y.1 (x.0 s more))
  | inr (inr same) ↦ sym (rule_is r) ∙ ap rule_at same ∙ rule_is s
]

one_first : (T : TimetableData) (Q : QueryData) (previous earlier : Option Leg) (legs : List Leg) (n m : ℕ) (r s : Rule) → IsFirstBroken T Q previous earlier legs n r → IsFirstBroken T Q previous earlier legs m s → (n ≡ m) × (r ≡ s)
one_first T Q previous earlier [] n m r s x y = absurd x
one_first T Q previous earlier (leg ∷ after) zero zero r s x y = (refl, one_rule T Q previous earlier leg after r s x y)
one_first T Q previous earlier (leg ∷ after) zero (suc m) r s x y = absurd (x.1 (y.0 r))
one_first T Q previous earlier (leg ∷ after) (suc n) zero r s x y = absurd (y.1 (x.0 s))
one_first T Q previous earlier (leg ∷ after) (suc n) (suc m) r s x y = let z = one_first T Q (Some leg) previous after n m r s x.1 y.1 in (ap suc z.0, z.1)

one_broken : (T : TimetableData) (Q : QueryData) (legs : List Leg) (a b : RuleBroken) → BreaksFirst T Q legs a.leg a.rule → BreaksFirst T Q legs b.leg b.rule → (a.leg ≡ b.leg) × (a.rule ≡ b.rule)
one_broken T Q [] a b x y = (x.0 ∙ sym y.0, x.1 ∙ sym y.1)
one_broken T Q (leg ∷ legs) a b x y = one_first T Q None None (leg ∷ legs) a.leg b.leg a.rule b.rule x y

same_broken : (a b : RuleBroken) → (a.leg ≡ b.leg) × (a.rule ≡ b.rule) → a ≡ b
same_broken a b same = ap (λ n. record { leg = n; rule = a.rule }) same.0 ∙ ap (λ r. record { leg = b.leg; rule = r }) same.1

module _ (T : TimetableData) (Q : QueryData) (claimed : ChoiceData) (sound : IsSound T) (inside : All (λ p. p < length T.stops) Q.from) where
  pub one_verdict : (v w : Verdict) → IsVerdict T Q claimed v → IsVerdict T Q claimed w → v ≡ w
  one_verdict Yes Yes x y = refl
  one_verdict Yes (Broken b) x y = absurd (first_broken_spells_none T Q sound claimed.legs inside b.leg b.rule y (claimed.value, x))
  one_verdict Yes (OtherValue u) x y = absurd (y.1 (value_spelt T Q claimed.legs u y.0 ∙ sym (value_spelt T Q claimed.legs claimed.value x)))
  one_verdict (Broken a) Yes x y = absurd (first_broken_spells_none T Q sound claimed.legs inside a.leg a.rule x (claimed.value, y))
  one_verdict (Broken a) (Broken b) x y = ap Broken (same_broken a b (one_broken T Q claimed.legs a b x y))
  one_verdict (Broken a) (OtherValue u) x y = absurd (first_broken_spells_none T Q sound claimed.legs inside a.leg a.rule x (u, y.0))
  one_verdict (OtherValue u) Yes x y = absurd (x.1 (value_spelt T Q claimed.legs u x.0 ∙ sym (value_spelt T Q claimed.legs claimed.value y)))
  one_verdict (OtherValue u) (Broken b) x y = absurd (first_broken_spells_none T Q sound claimed.legs inside b.leg b.rule y (u, x.0))
  one_verdict (OtherValue u) (OtherValue w) x y = ap OtherValue (value_spelt T Q claimed.legs u x.0 ∙ sym (value_spelt T Q claimed.legs w y.0))

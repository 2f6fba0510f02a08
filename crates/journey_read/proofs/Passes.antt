-- One leg more of a pass over the legs.
use Rattle.std.proofs.Common.{◌≡◌, ◌∙◌, ap, sym, subst, ℕ, zero, suc, ◌+◌, ◌<◌, List, [], ◌∷◌, length, get_or, drop, Option, None, Some, arith, refl}
use Rattle.tb_base.specs.declared.query.Leg.{Leg}
use Rattle.tb_base.specs.declared.rule.Rule.{Rule}
use Rattle.tb_base.specs.declared.rule.Rule.TheVariants.{BadNumber, TwoWalks, NoWalk, NoBoarding, NoAlighting, WrongStart, TooEarly, Apart, TooLate, WrongEnd}
use Rattle.tb_base.specs.TimetableData.{TimetableData}
use Rattle.tb_base.specs.BestValues.{QueryData}
use Rattle.tb_base.specs.JourneyRules.{KeepsRule, BreaksRule, KeepAllRules, IsFirstBroken, rule_number}

-- what holds of each rule but the last
pub before_last : (P : Rule → Type 0) → P BadNumber → P TwoWalks → P NoWalk → P NoBoarding → P NoAlighting → P WrongStart → P TooEarly → P Apart → P TooLate → (r : Rule) → rule_number r < 10 → P r
before_last P a b c d e f g h i BadNumber below = a
before_last P a b c d e f g h i TwoWalks below = b
before_last P a b c d e f g h i NoWalk below = c
before_last P a b c d e f g h i NoBoarding below = d
before_last P a b c d e f g h i NoAlighting below = e
before_last P a b c d e f g h i WrongStart below = f
before_last P a b c d e f g h i TooEarly below = g
before_last P a b c d e f g h i Apart below = h
before_last P a b c d e f g h i TooLate below = i
before_last P a b c d e f g h i WrongEnd below = absurd (omega (arith, below))

-- The first n legs keep all rules: what the legs behind them break first is what all legs break first.
pub record IsPassed (T : TimetableData) (Q : QueryData) (legs : List Leg) (n : ℕ) (previous earlier : Option Leg) : Type 0 where
  pub first : (m : ℕ) (r : Rule) → IsFirstBroken T Q previous earlier (drop n legs) m r → IsFirstBroken T Q None None legs (n + m) r
  pub keep : KeepAllRules T Q previous earlier (drop n legs) → KeepAllRules T Q None None legs

pub none_passed : (T : TimetableData) (Q : QueryData) (legs : List Leg) → IsPassed T Q legs 0 None None
none_passed T Q legs = record {
  first = λ m r h. (let e : m ≡ 0 + m = omega arith in subst (λ k. IsFirstBroken T Q None None legs k r) e h);
  keep = λ h. h;
}

split : (legs : List Leg) (n : ℕ) (d : Leg) → n < length legs → drop n legs ≡ get_or legs n d ∷ drop (n + 1) legs
split [] n d h = absurd (omega arith)
split (x ∷ xs) zero d h = refl
split (x ∷ xs) (suc n) d h = (let e : suc (n + 1) ≡ suc n + 1 = omega arith in split xs n d (omega arith) ∙ ap (λ k. get_or xs n d ∷ drop k (x ∷ xs)) e)

module _ (T : TimetableData) (Q : QueryData) (legs : List Leg) (n : ℕ) (previous earlier : Option Leg) (leg : Leg) (inside : n < length legs) (at : leg ≡ get_or legs n leg) (passed : IsPassed T Q legs n previous earlier) where
  here : drop n legs ≡ leg ∷ drop (n + 1) legs
  here = subst (λ x. drop n legs ≡ x ∷ drop (n + 1) legs) (sym at) (split legs n leg inside)

  -- one leg more
  pub one_passed : ((r : Rule) → KeepsRule T Q previous earlier leg (drop (n + 1) legs) r) → IsPassed T Q legs (n + 1) (Some leg) previous
  one_passed kept = record {
    first = λ m r h.
        let e : n + suc m ≡ (n + 1) + m = omega arith in
        subst (λ k. IsFirstBroken T Q None None legs k r) e (passed.first (suc m) r (subst (λ l. IsFirstBroken T Q previous earlier l (suc m) r) (sym here) (kept, h)));
    keep = λ h. passed.keep (subst (λ l. KeepAllRules T Q previous earlier l) (sym here) (kept, h));
  }

  -- the leg that breaks a rule
  pub broken_here : (r : Rule) → BreaksRule T Q previous earlier leg (drop (n + 1) legs) r → IsFirstBroken T Q None None legs n r
  broken_here r broken =
      let e : n + 0 ≡ n = omega arith in
      subst (λ k. IsFirstBroken T Q None None legs k r) e (passed.first 0 r (subst (λ l. IsFirstBroken T Q previous earlier l 0 r) (sym here) broken))

pub all_passed : (T : TimetableData) (Q : QueryData) (legs : List Leg) (n : ℕ) (previous earlier : Option Leg) → length legs ≡ n → IsPassed T Q legs n previous earlier → KeepAllRules T Q None None legs
all_passed T Q legs n previous earlier all passed = passed.keep (subst (λ l. KeepAllRules T Q previous earlier l) (sym (past legs n all)) tt)
  where
    past : (legs : List Leg) (n : ℕ) → length legs ≡ n → drop n legs ≡ []
    past [] zero e = refl
    past [] (suc n) e = refl
    past (x ∷ xs) zero e = absurd (omega arith)
    past (x ∷ xs) (suc n) e = past xs n (omega arith)

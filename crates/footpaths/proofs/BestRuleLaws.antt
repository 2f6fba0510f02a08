-- BestRules at the stops of a list, one stop after another.
use Rattle.std.proofs.Common.{◌≡◌, ◌≢◌, ◌∙◌, sym, ap, refl, ℕ, ◌+◌, ◌<◌, List, length, take, get_or, set, Bool, true, false, ◌||◌, Option, Some, None, arith, inl, inr}
use Rattle.std.specs.Prelude.{◌==◌, All, AllPairs}
use Rattle.std.specs.List.{list_any}
use Rattle.std.proofs.lemmas.Bool.{cases_Bool, ne_eqb}
use Rattle.std.proofs.lemmas.Bool.Decides.{nat_tests}
use Rattle.std.proofs.lemmas.List.{length-take-le, get_or-take, get_or_default, get_or-set_same, get_or-set_other}
use Rattle.std.proofs.lemmas.List.Folds.{list_any_none, list_any_more}
use Rattle.footpaths.specs.declared.best_rules.RankedRule.{RankedRule}
use Rattle.footpaths.specs.BestRules.{better, slot, marked}

-- a stop of a list of different stops doesn't stand before its place
not_before : (stops : List ℕ) (i m : ℕ) → AllPairs (λ p q. p ≢ q) stops → i < length stops → m ≡ get_or stops i m → list_any (λ x. x == m) (take i stops) ≡ false
not_before stops i m distinct h at =
    list_any_none (λ x. x == m) (take i stops) (λ k d below.
    let many = length-take-le i stops (omega arith) in
    let before : k < i = omega arith in
    let here : m ≡ get_or stops i d = at ∙ get_or_default stops i m d h in
    rw (get_or-take i stops k d before) (ne_eqb (get_or stops k d) m (λ e. distinct k i d before h (e ∙ here))))

marked_later : (a : Bool) (held : Option RankedRule) (r : ℕ) (s : Option ℕ) → a ≡ false → Some (better (marked a held r s) r s) ≡ marked (a || true) held r s
marked_later true held r s e = cc
marked_later false held r s e = refl

marked_still : (a : Bool) (held : Option RankedRule) (r : ℕ) (s : Option ℕ) → marked a held r s ≡ marked (a || false) held r s
marked_still true held r s = refl
marked_still false held r s = refl

pub mark_one_more : (first old new : List (Option RankedRule)) (stops : List ℕ) (i m r : ℕ) (s : Option ℕ) → AllPairs (λ p q. p ≢ q) stops → All (λ p. p < length first) stops → length old ≡ length first → i < length stops → m ≡ get_or stops i m
    → new ≡ set old m (Some (better (slot old m) r s)) → ((p : ℕ) → slot old p ≡ marked (list_any (λ x. x == p) (take i stops)) (slot first p) r s)
    → (p : ℕ) → slot new p ≡ marked (list_any (λ x. x == p) (take (i + 1) stops)) (slot first p) r s
mark_one_more first old new stops i m r s distinct within many h at e before p =
    let more : list_any (λ x. x == p) (take (i + 1) stops) ≡ (list_any (λ x. x == p) (take i stops) || (m == p)) = list_any_more (λ x. x == p) stops i m h ∙ ap (λ x. list_any (λ x. x == p) (take i stops) || (x == p)) (sym at) in
    let there : m < length old = (let w : get_or stops i m < length first = within i m h in omega (arith, at)) in
    elim (cases_Bool (m == p)) [
      | inl t ↦
          let same : m ≡ p = grind (arith, nat_tests, t) in
          let absent = not_before stops i m distinct h at in
          let here : slot new m ≡ Some (better (slot old m) r s) = ap (λ slots. slot slots m) e ∙ get_or-set_same old m (Some (better (slot old m) r s)) None there in
          let at_m : slot new m ≡ marked (list_any (λ x. x == m) (take i stops) || true) (slot first m) r s = here ∙ ap (λ v. Some (better v r s)) (before m) ∙ marked_later _ (slot first m) r s absent in
          rw (more, t, ← same) at_m
      | inr f ↦
          let other : p ≢ m = λ s. absurd (let t : (m == p) ≡ true = grind (arith, nat_tests, s) in let c : false ≡ true = sym f ∙ t in cc) in
          rw (more, f) (ap (λ slots. slot slots p) e ∙ get_or-set_other old m p (Some (better (slot old m) r s)) None other ∙ before p ∙ marked_still _ (slot first p) r s)
    ]

-- To compare with every earlier alternative is to compare with one number for each stop: the least of what they offer.
use Rattle.std.proofs.Common.{◌≡◌, ℕ, List, [], ◌∷◌, ◌&&◌, Bool, true, false, cond, refl, sym, ap, ◌∙◌, arith, ℤ, ◌≤ℤ◌, ◌<ℤ◌, Option, Some, None}
use Rattle.std.specs.Prelude.{int_lt, int_le}
use Rattle.std.proofs.lemmas.Int.{ints}
use Rattle.tb_base.specs.declared.table.Event.{Event}
use Rattle.tb_laws.specs.Labels.{lesser, label}
use Rattle.tb_base.specs.Transfers.{earliest_offer, is_sooner, is_soonest}
use Rattle.tb_base.proofs.NumberFacts.{int_le-true, int_le-false}

is_sooner-lesser : (x a b : Option ℤ) → is_sooner x (lesser a b) ≡ (is_sooner x a && is_sooner x b)
is_sooner-lesser None a b = refl
is_sooner-lesser (Some x) None b = refl
is_sooner-lesser (Some x) (Some y) None = and_true (int_lt x y)
  where
    and_true : (b : Bool) → b ≡ (b && true)
    and_true true = refl
    and_true false = refl
is_sooner-lesser (Some x) (Some y) (Some z) = by_test (int_le y z) refl
  where
    left : (x y z : ℤ) → y ≤ℤ z → int_lt x y ≡ (int_lt x y && int_lt x z)
    left x y z h = grind (arith, ints)

    right : (x y z : ℤ) → z <ℤ y → int_lt x z ≡ (int_lt x y && int_lt x z)
    right x y z h = grind (arith, ints)

    by_test : (b : Bool) → b ≡ int_le y z → is_sooner (Some x) (cond b (Some y) (Some z)) ≡ (int_lt x y && int_lt x z)
    by_test true e = left x y z (int_le-true y z (sym e))
    by_test false e = right x y z (int_le-false y z (sym e))

-- Some alternative is earlier, as the stay at the same event always is.
pub is_soonest-label : (secs_to : ℕ → ℕ → Option ℕ) (es : List Event) (earlier : List (List Event)) (events : List Event) (p : ℕ) →
    is_soonest secs_to (es ∷ earlier) events p ≡ is_sooner (earliest_offer secs_to events p) (label secs_to (es ∷ earlier) p)
is_soonest-label secs_to es [] events p = ends (earliest_offer secs_to events p) (earliest_offer secs_to es p)
  where
    and_true : (b : Bool) → (b && true) ≡ b
    and_true true = refl
    and_true false = refl

    lesser-none : (a : Option ℤ) → lesser a None ≡ a
    lesser-none None = refl
    lesser-none (Some x) = refl

    ends : (x a : Option ℤ) → (is_sooner x a && true) ≡ is_sooner x (lesser a None)
    ends x a = and_true (is_sooner x a) ∙ ap (is_sooner x) (sym (lesser-none a))
is_soonest-label secs_to es (fs ∷ earlier) events p =
    ap (λ b. is_sooner (earliest_offer secs_to events p) (earliest_offer secs_to es p) && b) (is_soonest-label secs_to fs earlier events p)
    ∙ sym (is_sooner-lesser (earliest_offer secs_to events p) (earliest_offer secs_to es p) (label secs_to (fs ∷ earlier) p))

-- Which of the values that were found at a time are kept. These are best.
use Rattle.std.proofs.Common.{◌≡◌, ◌∙◌, ℕ, ◌<◌, ◌⊎◌, inl, inr, ◌&&◌, ◌||◌, not, Bool, true, false, List, [], ◌∷◌, ◌++◌, get_or, refl, sym, ap, subst, arith, ℤ, ◌≤ℤ◌, ◌<ℤ◌}
use Rattle.std.specs.Prelude.{AllPairs, Contains, int_le, nat_le, nat_lt}
use Rattle.std.specs.List.{list_any}
use Rattle.std.proofs.lemmas.Int.{ints}
use Rattle.std.proofs.lemmas.Bool.Decides.{nat_tests}
use Rattle.std.proofs.lemmas.List.{get_or_default}
use Rattle.std.proofs.lemmas.List.Elements.{All-contains, Contains-append_cases}
use Rattle.std.proofs.lemmas.Bool.{and_parts, leb-true, le-leb, and_from}
use Rattle.tb_base.specs.declared.query.Value.{Value}
use Rattle.tb_base.specs.TimetableData.{TimetableData}
use Rattle.tb_base.specs.BestValues.{QueryData, IsAttained, IsBest, IsNoWorse, IsStep}
use Rattle.tb_base.proofs.Ordered.{Member, Member-from_Contains}
use Rattle.tb_laws.specs.Pruning.{IsLate}
use Rattle.query_gate.specs.Slots.{AreFound, is_kept, is_no_worse}
use Rattle.tb_base.proofs.NumberFacts.{int_le-true, le-int_le, ≤ℤ-antisym}
use Rattle.tb_base.proofs.Values.{IsNoWorse-trans, same_value}

-- what the test says
no_worse_is : (u v : Value) → is_no_worse u v ≡ true → IsNoWorse u v
no_worse_is u v h = let p = and_parts (int_le u.arrive v.arrive) (nat_le u.rides v.rides) h in (int_le-true _ _ p.0, leb-true _ _ p.1)

is_no_worse-from : (u v : Value) → IsNoWorse u v → is_no_worse u v ≡ true
is_no_worse-from u v h = and_from (int_le u.arrive v.arrive) (nat_le u.rides v.rides) (le-int_le _ _ h.0) (le-leb _ _ h.1)

-- what is kept has a ride, and none of the later ones is no worse
pub kept_has_ride : (later : List Value) (v : Value) → is_kept later v ≡ true → 0 < v.rides
kept_has_ride later v h = below (and_parts (nat_lt 0 v.rides) (not (list_any (λ u. is_no_worse u v) later)) h).0
  where
    below : nat_lt 0 v.rides ≡ true → 0 < v.rides
    below k = grind (arith, nat_tests, k)

any_from : (later : List Value) (u v : Value) → Member u later → is_no_worse u v ≡ true → list_any (λ u. is_no_worse u v) later ≡ true
any_from [] u v h k = absurd h
any_from (x ∷ xs) u v (inl e) k = first (is_no_worse x v) (list_any (λ u. is_no_worse u v) xs) (ap (λ y. is_no_worse y v) e ∙ k)
  where
    first : (a b : Bool) → a ≡ true → (a || b) ≡ true
    first a b h = cc
any_from (x ∷ xs) u v (inr h) k = second (is_no_worse x v) (list_any (λ u. is_no_worse u v) xs) (any_from xs u v h k)
  where
    second : (a b : Bool) → b ≡ true → (a || b) ≡ true
    second true b h = refl
    second false b h = h

any_is : (later : List Value) (v : Value) → list_any (λ u. is_no_worse u v) later ≡ true → (u : Value) × Member u later × (is_no_worse u v ≡ true)
any_is [] v h = cc
any_is (x ∷ xs) v h = by_test (any_is xs v) (is_no_worse x v) refl h
  where
    by_test : (list_any (λ u. is_no_worse u v) xs ≡ true → (u : Value) × Member u xs × (is_no_worse u v ≡ true)) → (b : Bool) → b ≡ is_no_worse x v → (b || list_any (λ u. is_no_worse u v) xs) ≡ true → (u : Value) × Member u (x ∷ xs) × (is_no_worse u v ≡ true)
    by_test more true e k = (x, inl refl, sym e)
    by_test more false e k = let r : (u : Value) × Member u xs × (is_no_worse u v ≡ true) = more k in (r.0, inr r.1, r.2)

pub kept_beaten_by_none : (later : List Value) (u v : Value) → is_kept later v ≡ true → Contains later u → IsNoWorse u v → ⊥
kept_beaten_by_none later u v h c le =
    clash (list_any (λ u. is_no_worse u v) later) (any_from later u v (Member-from_Contains u later c) (is_no_worse-from u v le)) (and_parts (nat_lt 0 v.rides) (not (list_any (λ u. is_no_worse u v) later)) h).1
  where
    clash : (b : Bool) → b ≡ true → not b ≡ true → ⊥
    clash b g k = cc

pub kept-from : (later : List Value) (v : Value) → 0 < v.rides → ((u : Value) → Member u later → IsNoWorse u v → ⊥) → is_kept later v ≡ true
kept-from later v some_ride none = by_test (list_any (λ u. is_no_worse u v) later) refl
  where
    below : 0 < v.rides → nat_lt 0 v.rides ≡ true
    below k = grind (arith, nat_tests, k)

    both : (a b : Bool) → a ≡ true → b ≡ false → (a && not b) ≡ true
    both a b g h = cc

    by_test : (b : Bool) → b ≡ list_any (λ u. is_no_worse u v) later → is_kept later v ≡ true
    by_test true e = absurd (let r = any_is later v (sym e) in none r.0 r.1 (no_worse_is r.0 v r.2))
    by_test false e = both (nat_lt 0 v.rides) (list_any (λ u. is_no_worse u v) later) (below some_ride) (sym e)

-- of two values of a staircase none is no worse than the other, unless they are one
one_step : (values : List Value) (u v : Value) → AllPairs IsStep values → Contains values u → Contains values v → IsNoWorse u v → u ≡ v
one_step values u v stairs (i, in_i, is_u) (j, in_j, is_v) le = by_order (in_order i j)
  where
    in_order : (m n : ℕ) → (m < n) ⊎ ((n < m) ⊎ (m ≡ n))
    in_order m n = grind arith

    here : get_or values j u ≡ v
    here = get_or_default values j u v in_j ∙ is_v

    not_earlier : (a b : ℤ) → a ≤ℤ b → b <ℤ a → ⊥
    not_earlier a b g h = omega (arith, ints, g, h)

    earlier : IsStep u v → u ≡ v
    earlier s = absurd (not_earlier u.arrive v.arrive le.0 s.1)

    later : IsStep v u → u ≡ v
    later s = absurd (omega (arith, s.0, le.1))

    by_order : (i < j) ⊎ ((j < i) ⊎ (i ≡ j)) → u ≡ v
    by_order (inl h) = earlier (subst (λ x. IsStep x v) is_u (subst (IsStep (get_or values i u)) here (stairs i j u h in_j)))
    by_order (inr (inl h)) = later (subst (λ x. IsStep x u) here (subst (IsStep (get_or values j u)) is_u (stairs j i u h in_i)))
    by_order (inr (inr e)) = sym is_u ∙ ap (λ k. get_or values k u) e ∙ here

module _ (T : TimetableData) (Q : QueryData) (later values : List Value) (are : AreFound T Q later values) where
  -- a value that is kept is best
  pub kept_is_best : (v : Value) → Contains values v → is_kept later v ≡ true → IsBest T Q v
  kept_is_best v one kept = record {
    attained = All-contains (IsAttained T Q) values v are.attained one;
    undominated = λ w has le. by_found w le (are.cover w has);
  }
    where
      by_found : (w : Value) → IsNoWorse w v → IsLate (values ++ later) w.arrive w.rides → w ≡ v
      by_found w le (u, there, below) = elim (Contains-append_cases values later u there) [
        | inl m ↦ (let back : IsNoWorse v w = subst (λ x. IsNoWorse x w) (one_step values u v are.stairs m one (IsNoWorse-trans u w v below le)) below in
            same_value w.arrive v.arrive w.rides v.rides (≤ℤ-antisym w.arrive v.arrive le.0 back.0) (omega (arith, le.1, back.1)))
        | inr m ↦ absurd (kept_beaten_by_none later u v kept m (IsNoWorse-trans u w v below le))
      ]

  -- a best value that is kept is one of them
  pub best_is_found : (v : Value) → IsBest T Q v → is_kept later v ≡ true → Contains values v
  best_is_found v best kept = by_found (are.cover v best.attained)
    where
      by_found : IsLate (values ++ later) v.arrive v.rides → Contains values v
      by_found (u, there, below) = elim (Contains-append_cases values later u there) [
        | inl m ↦ subst (Contains values) (best.undominated u (All-contains (IsAttained T Q) values u are.attained m) below) m
        | inr m ↦ absurd (kept_beaten_by_none later u v kept m below)
      ]

-- Attained values that form a staircase, with all best values among them, are the best values.
use Rattle.std.proofs.Common.{◌≡◌, ℕ, ◌≤◌, ◌⊎◌, inl, inr, List, [], ◌∷◌, sym, subst, ◌∙◌, arith, ℤ, pos, ◌+ℤ◌, ◌≤ℤ◌, ◌<ℤ◌}
use Rattle.std.specs.Prelude.{Contains, All, AllPairs}
use Rattle.std.proofs.lemmas.Int.{ints}
use Rattle.std.proofs.lemmas.List.Elements.{All-contains}
use Rattle.tb_base.specs.declared.query.Value.{Value}
use Rattle.tb_base.specs.TimetableData.{TimetableData}
use Rattle.tb_base.specs.Soundness.{IsSound}
use Rattle.tb_base.specs.BestValues.{QueryData, IsAttained, IsNoWorse, IsBest, IsStep, AreBestValues}
use Rattle.tb_base.proofs.Ordered.{Member, Member-from_Contains, Contains-from_Member, AllPairs-head, AllPairs-tail}
use Rattle.tb_laws.proofs.CoverLaws.{attained_later, same_or_less, some_best, some_size}
use Rattle.tb_base.proofs.Members.{All-from_Member}

-- two members of a list in some order are one, or stand one before the other
members_in_order : {X : Type 0} (R : X → X → Type 0) (xs : List X) (x y : X) → AllPairs R xs → Member x xs → Member y xs → (x ≡ y) ⊎ (R x y ⊎ R y x)
members_in_order R [] x y p h k = absurd h
members_in_order R (z ∷ zs) x y p (inl e) (inl f) = inl (sym e ∙ f)
members_in_order R (z ∷ zs) x y p (inl e) (inr k) = inr (inl (subst (λ w. R w y) e (AllPairs-head R z zs p y (Contains-from_Member y zs k))))
members_in_order R (z ∷ zs) x y p (inr h) (inl f) = inr (inr (subst (λ w. R w x) f (AllPairs-head R z zs p x (Contains-from_Member x zs h))))
members_in_order R (z ∷ zs) x y p (inr h) (inr k) = members_in_order R zs x y (AllPairs-tail R z zs p) h k

pub best_values_from_staircase : (T : TimetableData) (Q : QueryData) (vs : List Value) → IsSound T → All (IsAttained T Q) vs → ((v : Value) → IsBest T Q v → Contains vs v) → AllPairs IsStep vs → AreBestValues T Q vs
best_values_from_staircase T Q vs sound attained complete stairs = record {
  best = All-from_Member (IsBest T Q) vs (λ h member. record {
    attained = All-contains (IsAttained T Q) vs h attained (Contains-from_Member h vs member);
    undominated = λ u has le. undominated h member u has le (same_or_less T sound u h le);
  });
  complete = complete;
  ordered = λ i j d before below. (stairs i j d before below).0;
}
  where
    clash : (a b c : ℤ) → a ≤ℤ b → b ≤ℤ c → c <ℤ a → ⊥
    clash a b c g h k = omega (arith, ints, g, h, k)

    sums : (a b : ℤ) (m n : ℕ) → a ≤ℤ b → m ≤ n → (b +ℤ pos n) <ℤ (a +ℤ pos m) → ⊥
    sums a b m n g h k = omega (arith, ints, g, h, k)

    compare : (h u v : Value) → IsNoWorse u h → IsNoWorse v u → (u.arrive +ℤ pos u.rides) <ℤ (h.arrive +ℤ pos h.rides) → (v ≡ h) ⊎ (IsStep v h ⊎ IsStep h v) → ⊥
    compare h u v le below less (inl e) = (let k : IsNoWorse h u = subst (λ x. IsNoWorse x u) e below in sums _ _ _ _ k.0 k.1 less)
    compare h u v le below less (inr (inl s)) = clash v.arrive u.arrive h.arrive below.0 le.0 s.1
    compare h u v le below less (inr (inr s)) = omega (arith, s.0, below.1, le.1)

    undominated : (h : Value) → Member h vs → (u : Value) → IsAttained T Q u → IsNoWorse u h → (u ≡ h) ⊎ ((u.arrive +ℤ pos u.rides) <ℤ (h.arrive +ℤ pos h.rides)) → u ≡ h
    undominated h member u has le (inl e) = e
    undominated h member u has le (inr less) =
        let n = some_size T sound Q.leave u.arrive u.rides (attained_later T sound Q u has) in
        absurd (some_best T sound Q n.0 u has n.1 (λ v best below. compare h u v le below less (members_in_order IsStep vs v h stairs (Member-from_Contains v vs (complete v best)) member)))

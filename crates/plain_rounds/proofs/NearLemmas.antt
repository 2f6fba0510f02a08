-- The nearest of some stops, one more looked at.
use Rattle.std.proofs.Common.{◌≡◌, ℕ, ◌<◌, ◌≤◌, ◌+◌, ◌⊎◌, inl, inr, List, length, get_or, refl, sym, ap, subst, ◌∙◌, arith, Option, None, Some}
use Rattle.std.specs.Prelude.{IfSome, IsSome, MatchOption, Contains, unwrap_or}
use Rattle.tb_base.proofs.NumberFacts.{below_or_at}
use Rattle.plain_rounds.specs.declared.legs.Near.{Near}
use Rattle.plain_rounds.specs.Shown.{IsAsNear, IsNearest, IsNearestOf}
use Rattle.plain_rounds.proofs.Least.{get_or-inside}

some_same : {m n : ℕ} → Some m ≡ Some n → m ≡ n
some_same e = cc

near-trans : (a b : Near) (q s : ℕ) → IsAsNear a b.stop b.secs → IsAsNear b q s → IsAsNear a q s
near-trans a b q s (inl h) (inl k) = inl (omega (arith, h, k))
near-trans a b q s (inl h) (inr k) = inl (omega (arith, h, k.0))
near-trans a b q s (inr h) (inl k) = inl (omega (arith, h.0, k))
near-trans a b q s (inr h) (inr k) = inr (omega (arith, h.0, k.0), omega (arith, h.1, k.1))

module _ (secs_to : ℕ → Option ℕ) where
  pub nearest-same : (P Q : ℕ → Type 0) → ((q : ℕ) → P q → Q q) → ((q : ℕ) → Q q → P q) → (o : Option Near) → IsNearestOf secs_to P o → IsNearestOf secs_to Q o
  nearest-same P Q f g None h = λ q s among is. h q s (g q among) is
  nearest-same P Q f g (Some n) h = (f n.stop h.0, h.1, λ q s among is. h.2 q s (g q among) is)

  -- the nearer of the nearest so far and of one more stop
  module _ (P : ℕ → Type 0) (stop : ℕ) (secs : Option ℕ) (is_secs : secs ≡ secs_to stop) where
    pub nearest-then : (best new : Option Near) → IfSome new (λ n. (best ≡ Some n) ⊎ ((n.stop ≡ stop) × (secs ≡ Some n.secs))) → IfSome best (λ b. MatchOption new ⊥ (λ n. IsAsNear n b.stop b.secs)) → ((s : ℕ) → secs ≡ Some s → MatchOption new ⊥ (λ n. IsAsNear n stop s)) →
        IsNearestOf secs_to P best → IsNearestOf secs_to (λ q. P q ⊎ (q ≡ stop)) new
    nearest-then None None one as_best as_new h = λ q s among is. by_case q s among is
      where
        by_case : (q s : ℕ) → P q ⊎ (q ≡ stop) → secs_to q ≡ Some s → ⊥
        by_case q s (inl k) is = h q s k is
        by_case q s (inr e) is = as_new s (is_secs ∙ sym (ap secs_to e) ∙ is)
    nearest-then (Some b) None one as_best as_new h = absurd as_best
    nearest-then None (Some n) one as_best as_new h = by_one one
      where
        others : (q s : ℕ) → P q ⊎ (q ≡ stop) → secs_to q ≡ Some s → IsAsNear n q s
        others q s (inl k) is = absurd (h q s k is)
        others q s (inr e) is = subst (λ p. IsAsNear n p s) (sym e) (as_new s (is_secs ∙ sym (ap secs_to e) ∙ is))

        by_one : (None ≡ Some n) ⊎ ((n.stop ≡ stop) × (secs ≡ Some n.secs)) → IsNearestOf secs_to (λ q. P q ⊎ (q ≡ stop)) (Some n)
        by_one (inl e) = cc
        by_one (inr e) = (inr e.0, ap secs_to e.0 ∙ sym is_secs ∙ e.1, others)
    nearest-then (Some b) (Some n) one as_best as_new h = by_one one
      where
        others : (q s : ℕ) → P q ⊎ (q ≡ stop) → secs_to q ≡ Some s → IsAsNear n q s
        others q s (inl k) is = near-trans n b q s as_best (h.2 q s k is)
        others q s (inr e) is = subst (λ p. IsAsNear n p s) (sym e) (as_new s (is_secs ∙ sym (ap secs_to e) ∙ is))

        same_near : {x y : Near} → Some x ≡ Some y → x ≡ y
        same_near e = cc

        by_one : (Some b ≡ Some n) ⊎ ((n.stop ≡ stop) × (secs ≡ Some n.secs)) → IsNearestOf secs_to (λ q. P q ⊎ (q ≡ stop)) (Some n)
        by_one (inl e) = let same : b ≡ n = same_near e in (inl (subst (λ (x : Near). P x.stop) same h.0), subst (λ (x : Near). secs_to x.stop ≡ Some x.secs) same h.1, others)
        by_one (inr e) = (inr e.0, ap secs_to e.0 ∙ sym is_secs ∙ e.1, others)

  -- one more of the numbers of a list
  pub nearest-more : (ns : List ℕ) (i : ℕ) (secs : Option ℕ) → secs ≡ secs_to (get_or ns i 0) → (best new : Option Near) → IfSome new (λ n. (best ≡ Some n) ⊎ ((n.stop ≡ get_or ns i 0) × (secs ≡ Some n.secs))) → IfSome best (λ b. MatchOption new ⊥ (λ n. IsAsNear n b.stop b.secs)) → IfSome secs (λ s. MatchOption new ⊥ (λ n. IsAsNear n (get_or ns i 0) s)) →
      IsNearestOf secs_to (λ q. (k : ℕ) × (k < i) × (get_or ns k 0 ≡ q)) best → IsNearestOf secs_to (λ q. (k : ℕ) × (k < i + 1) × (get_or ns k 0 ≡ q)) new
  nearest-more ns i secs is best new one as_best as_new h =
      nearest-same (λ q. ((k : ℕ) × (k < i) × (get_or ns k 0 ≡ q)) ⊎ (q ≡ get_or ns i 0)) (λ q. (k : ℕ) × (k < i + 1) × (get_or ns k 0 ≡ q))
      (λ q k. elim k [ inl p ↦ (p.0, omega (arith, p.1), p.2) | inr e ↦ (i, omega arith, sym e) ])
      (λ q k. by_case q k.0 k.2 (below_or_at k.0 i k.1)) new
      (nearest-then (λ q. (k : ℕ) × (k < i) × (get_or ns k 0 ≡ q)) (get_or ns i 0) secs is best new one as_best (λ s e. if_some secs s e as_new) h)
    where
      if_some : (o : Option ℕ) (s : ℕ) → o ≡ Some s → IfSome o (λ s. MatchOption new ⊥ (λ n. IsAsNear n (get_or ns i 0) s)) → MatchOption new ⊥ (λ n. IsAsNear n (get_or ns i 0) s)
      if_some None s e k = cc
      if_some (Some t) s e k = subst (λ u. MatchOption new ⊥ (λ n. IsAsNear n (get_or ns i 0) u)) (some_same e) k

      by_case : (q k : ℕ) → get_or ns k 0 ≡ q → (k < i) ⊎ (k ≡ i) → ((k : ℕ) × (k < i) × (get_or ns k 0 ≡ q)) ⊎ (q ≡ get_or ns i 0)
      by_case q k e (inl below) = inl (k, below, e)
      by_case q k e (inr same) = inr (sym e ∙ ap (λ j. get_or ns j 0) same)

  -- all numbers of a list
  pub nearest-all : (ns : List ℕ) (i : ℕ) (o : Option Near) → i ≡ length ns → IsNearestOf secs_to (λ q. (k : ℕ) × (k < i) × (get_or ns k 0 ≡ q)) o → IsNearestOf secs_to (Contains ns) o
  nearest-all ns i o all h = nearest-same (λ q. (k : ℕ) × (k < i) × (get_or ns k 0 ≡ q)) (Contains ns)
      (λ q k. let inside : k.0 < length ns = omega (arith, all, k.1) in (k.0, inside, get_or-inside ns k.0 q 0 inside ∙ k.2))
      (λ q k. (k.0, omega (arith, all, k.1), get_or-inside ns k.0 0 q k.1 ∙ k.2)) o h

  -- the nearest stop in the words of what is shown
  pub nearest-shown : (ns : List ℕ) (n : Near) → IsNearestOf secs_to (Contains ns) (Some n) → IsNearest secs_to ns n.stop
  nearest-shown ns n h = record {
    among = h.0;
    walks = subst (λ o. IsSome o) (sym h.1) refl;
    first = λ q s among is. subst (λ m. (m < s) ⊎ ((m ≡ s) × (n.stop ≤ q))) (sym (ap (λ o. unwrap_or o 0) h.1)) (h.2 q s among is);
  }

-- a bound on the nearest so far
pub nearest-within : (best new : Option Near) (stop : ℕ) (secs : Option ℕ) → IfSome new (λ n. (best ≡ Some n) ⊎ ((n.stop ≡ stop) × (secs ≡ Some n.secs))) → IfSome best (λ n. n.secs ≤ 86400) → IfSome secs (λ s. s ≤ 86400) → IfSome new (λ n. n.secs ≤ 86400)
nearest-within best None stop secs one h k = tt
nearest-within best (Some n) stop secs (inl e) h k = subst (λ (o : Option Near). IfSome o (λ n. n.secs ≤ 86400)) e h
nearest-within best (Some n) stop secs (inr e) h k = subst (λ (o : Option ℕ). IfSome o (λ s. s ≤ 86400)) e.1 k

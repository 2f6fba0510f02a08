-- Labels that take one offer after another.
use Rattle.std.proofs.Common.{◌≡◌, ℕ, ◌<◌, ◌+◌, ◌⊎◌, inl, inr, List, length, get_or, sym, subst, ◌∙◌, arith, Option, Some}
use Rattle.std.specs.Prelude.{Contains}
use Rattle.tb_base.proofs.NumberFacts.{below_or_at}
use Rattle.plain_rounds.specs.declared.labels.StopLabel.{StopLabel}
use Rattle.plain_rounds.specs.Labels.{Takes, label_at}
use Rattle.plain_rounds.proofs.Least.{get_or-inside}

-- the same is offered
pub Takes-same : (xs ys : List (Option StopLabel)) (P Q : ℕ → StopLabel → Type 0) → ((p : ℕ) (l : StopLabel) → P p l → Q p l) → ((p : ℕ) (l : StopLabel) → Q p l → P p l) → Takes xs ys P → Takes xs ys Q
Takes-same xs ys P Q f g t = record {
  long = t.long;
  kept = t.kept;
  made = λ p l h. elim (t.made p l h) [ inl k ↦ inl k | inr k ↦ inr (f p l k) ];
  taken = λ p l h. t.taken p l (g p l h);
}

-- one offer after another
pub Takes-then : (xs ys zs : List (Option StopLabel)) (P Q : ℕ → StopLabel → Type 0) → Takes xs ys P → Takes ys zs Q → Takes xs zs (λ p l. P p l ⊎ Q p l)
Takes-then xs ys zs P Q t u = record {
  long = u.long ∙ t.long;
  kept = λ p time h. u.kept p time (t.kept p time h);
  made = λ p l h. by_case p l (u.made p l h);
  taken = λ p l h. elim h [ inl k ↦ u.kept p l.time (t.taken p l k) | inr k ↦ u.taken p l k ];
}
  where
    by_case : (p : ℕ) (l : StopLabel) → (label_at ys p ≡ Some l) ⊎ Q p l → (label_at xs p ≡ Some l) ⊎ (P p l ⊎ Q p l)
    by_case p l (inl h) = elim (t.made p l h) [ inl k ↦ inl k | inr k ↦ inr (inl k) ]
    by_case p l (inr k) = inr (inr k)

-- one more of some offers that are made in turn
pub Takes-more : (xs ys zs : List (Option StopLabel)) (P : ℕ → ℕ → StopLabel → Type 0) (i : ℕ) → Takes xs ys (λ p l. (k : ℕ) × (k < i) × P k p l) → Takes ys zs (P i) → Takes xs zs (λ p l. (k : ℕ) × (k < i + 1) × P k p l)
Takes-more xs ys zs P i t u =
    Takes-same xs zs (λ p l. ((k : ℕ) × (k < i) × P k p l) ⊎ P i p l) (λ p l. (k : ℕ) × (k < i + 1) × P k p l)
    (λ p l h. elim h [ inl k ↦ (k.0, omega (arith, k.1), k.2) | inr k ↦ (i, omega arith, k) ])
    (λ p l h. by_case p l h.0 h.2 (below_or_at h.0 i h.1))
    (Takes-then xs ys zs (λ p l. (k : ℕ) × (k < i) × P k p l) (P i) t u)
  where
    by_case : (p : ℕ) (l : StopLabel) (k : ℕ) → P k p l → (k < i) ⊎ (k ≡ i) → ((k : ℕ) × (k < i) × P k p l) ⊎ P i p l
    by_case p l k h (inl below) = inl (k, below, h)
    by_case p l k h (inr e) = inr (subst (λ j. P j p l) e h)

-- all numbers of a list in turn
pub Takes-contained : (xs ys : List (Option StopLabel)) (P : ℕ → ℕ → StopLabel → Type 0) (ns : List ℕ) (i : ℕ) → i ≡ length ns → Takes xs ys (λ p l. (k : ℕ) × (k < i) × P (get_or ns k 0) p l) → Takes xs ys (λ p l. (n : ℕ) × Contains ns n × P n p l)
Takes-contained xs ys P ns i all t =
    Takes-same xs ys (λ p l. (k : ℕ) × (k < i) × P (get_or ns k 0) p l) (λ p l. (n : ℕ) × Contains ns n × P n p l)
    (λ p l h. let inside : h.0 < length ns = omega (arith, all, h.1) in (get_or ns h.0 0, (h.0, inside, get_or-inside ns h.0 (get_or ns h.0 0) 0 inside), h.2))
    (λ p l h. (h.1.0, omega (arith, all, h.1.1), subst (λ n. P n p l) (sym (get_or-inside ns h.1.0 0 h.0 h.1.1 ∙ h.1.2)) h.2))
    t

-- Walks and changes in a row, under the law on footpaths.
use Rattle.std.proofs.Common.{◌≡◌, ◌≢◌, ℕ, ◌≤◌, ◌+◌, ◌⊎◌, inl, inr, Option, None, Some, arith, sym, ap, subst, ◌∙◌, pos}
use Rattle.std.specs.Prelude.{IsSomeAnd, unwrap_or}
use Rattle.std.proofs.lemmas.Bool.{cases_eq}
use Rattle.tb_base.specs.TimetableData.{TimetableData}
use Rattle.tb_base.specs.Walking.{walk, change, KeepsFootpathLaw}
use Rattle.tb_base.specs.Journeys.{walk_secs}
pub use Rattle.tb_base.proofs.Walks.{walk-same, walk-other, change-same, change-other}

pub walk_secs-is : (T : TimetableData) (p q n : ℕ) → walk T p q ≡ Some n → walk_secs T p q ≡ pos n
walk_secs-is T p q n h = ap (λ o. pos (unwrap_or o 0)) h

at_most : (o : Option ℕ) (n m : ℕ) → o ≡ Some n → n ≤ m → IsSomeAnd o (λ u. u ≤ m)
at_most o n m h k = subst (λ x. IsSomeAnd x (λ u. u ≤ m)) (sym h) k

more : (o : Option ℕ) (n m : ℕ) → n ≤ m → IsSomeAnd o (λ u. u ≤ n) → IsSomeAnd o (λ u. u ≤ m)
more None n m k h = h
more (Some x) n m k h = omega (arith, h, k)

module _ (T : TimetableData) (law : KeepsFootpathLaw T.footpaths) where
  -- where one can change one can walk, as fast
  walk_from_change : (p r m : ℕ) → IsSomeAnd (change T p r) (λ u. u ≤ m) → IsSomeAnd (walk T p r) (λ u. u ≤ m)
  walk_from_change p r m h = by_case (cases_eq p r)
    where
      by_case : (p ≡ r) ⊎ (p ≢ r) → IsSomeAnd (walk T p r) (λ u. u ≤ m)
      by_case (inl e) = subst (λ q. IsSomeAnd (walk T p q) (λ u. u ≤ m)) e (at_most (walk T p p) 0 m (walk-same T p) (omega arith))
      by_case (inr k) = subst (λ o. IsSomeAnd o (λ u. u ≤ m)) (change-other T p r k ∙ sym (walk-other T p r k)) h

  pub change-change : (p q r s t : ℕ) → change T p q ≡ Some s → change T q r ≡ Some t → IsSomeAnd (change T p r) (λ u. u ≤ s + t)
  change-change p q r s t g h = by_case (cases_eq p q) (cases_eq q r)
    where
      by_case : (p ≡ q) ⊎ (p ≢ q) → (q ≡ r) ⊎ (q ≢ r) → IsSomeAnd (change T p r) (λ u. u ≤ s + t)
      by_case (inl e) k = at_most (change T p r) t (s + t) (subst (λ x. change T x r ≡ Some t) (sym e) h) (omega arith)
      by_case (inr d) (inl e) = at_most (change T p r) s (s + t) (subst (λ x. change T p x ≡ Some s) e g) (omega arith)
      by_case (inr d) (inr k) = law p q r s t d k (sym (change-other T p q d) ∙ g) (sym (change-other T q r k) ∙ h)

  pub walk-change : (p q r s t : ℕ) → walk T p q ≡ Some s → change T q r ≡ Some t → IsSomeAnd (walk T p r) (λ u. u ≤ s + t)
  walk-change p q r s t g h = by_case (cases_eq p q)
    where
      by_case : (p ≡ q) ⊎ (p ≢ q) → IsSomeAnd (walk T p r) (λ u. u ≤ s + t)
      by_case (inl e) = walk_from_change p r (s + t) (at_most (change T p r) t (s + t) (subst (λ x. change T x r ≡ Some t) (sym e) h) (omega arith))
      by_case (inr d) = walk_from_change p r (s + t) (change-change p q r s t (change-other T p q d ∙ (sym (walk-other T p q d) ∙ g)) h)

  pub change-walk : (p q r s t : ℕ) → change T p q ≡ Some s → walk T q r ≡ Some t → IsSomeAnd (walk T p r) (λ u. u ≤ s + t)
  change-walk p q r s t g h = by_case (cases_eq q r)
    where
      by_case : (q ≡ r) ⊎ (q ≢ r) → IsSomeAnd (walk T p r) (λ u. u ≤ s + t)
      by_case (inl e) = walk_from_change p r (s + t) (at_most (change T p r) s (s + t) (subst (λ x. change T p x ≡ Some s) e g) (omega arith))
      by_case (inr k) = walk_from_change p r (s + t) (change-change p q r s t g (change-other T q r k ∙ (sym (walk-other T q r k) ∙ h)))

  pub walk-walk : (p q r s t : ℕ) → walk T p q ≡ Some s → walk T q r ≡ Some t → IsSomeAnd (walk T p r) (λ u. u ≤ s + t)
  walk-walk p q r s t g h = by_case (cases_eq p q)
    where
      by_case : (p ≡ q) ⊎ (p ≢ q) → IsSomeAnd (walk T p r) (λ u. u ≤ s + t)
      by_case (inl e) = at_most (walk T p r) t (s + t) (subst (λ x. walk T x r ≡ Some t) (sym e) h) (omega arith)
      by_case (inr d) = change-walk p q r s t (change-other T p q d ∙ (sym (walk-other T p q d) ∙ g)) h

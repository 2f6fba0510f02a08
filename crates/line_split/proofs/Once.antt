-- Items whose numbers differ, and a sort of them.
use Rattle.std.proofs.Common.{◌≡◌, ◌≢◌, ◌∙◌, sym, refl, ℕ, zero, suc, ◌+◌, ◌<◌, ◌≤◌, ◌⊎◌, inl, inr, Bool, true, false, cond, ◌==◌, List, [], ◌∷◌, ◌++◌, length, get_or, arith, sum_by, filter}
use Rattle.std.specs.Prelude.{AllPairs}
use Rattle.std.specs.List.{concat}
use Rattle.std.specs.List.Sorted.{IsPermutation, IsSortedBy}
use Rattle.std.specs.Cmp.{IsStrictWeakOrder}
use Rattle.std.proofs.lemmas.Bool.{false≢true, cases_eq}
use Rattle.std.proofs.lemmas.List.Sums.{sum_by-append, sum_by-cons}
use Rattle.std.proofs.lemmas.List.Sorted.{sorted_far, sum_by-IsPermutation}
use Rattle.tb_base.specs.TimetableData.{TimetableData}
use Rattle.tb_base.specs.Lines.{TripPrecedes}
use Rattle.tb_base.proofs.Ordered.{Contains-from_Member, Member, AllPairs-head, AllPairs-tail}
use Rattle.line_split.proofs.OrderLaws.{TripPrecedes-total}
use Rattle.line_split.proofs.TripOrders.{precedes}

abbrev one : ℕ → ℕ → ℕ
one v x = cond (x == v) 1 0

one-same : (v x : ℕ) → x ≡ v → one v x ≡ 1
one-same v x h = grind arith

one-other : (v x : ℕ) → x ≢ v → one v x ≡ 0
one-other v x h = grind arith

module _ {X : Type 0} (f : X → ℕ) where
  -- how many items have number v
  abbrev pub count_of : ℕ → List X → ℕ
  count_of v xs = sum_by (λ x. one v (f x)) xs

  -- no number stands twice
  abbrev pub IsOnce : List X → Type 0
  IsOnce xs = (v : ℕ) → count_of v xs ≤ 1

  count-cons : (v : ℕ) (x : X) (xs : List X) → count_of v (x ∷ xs) ≡ one v (f x) + count_of v xs
  count-cons v x xs = sum_by-cons (λ x. one v (f x)) x xs

  none : (v : ℕ) (xs : List X) → ((x : X) → Member x xs → f x ≢ v) → count_of v xs ≡ 0
  none v [] other = refl
  none v (x ∷ xs) other = omega (arith, count-cons v x xs, one-other v (f x) (other x (inl refl)), none v xs (λ y m. other y (inr m)))

  pub once_from : (xs : List X) → AllPairs (λ x y. f x ≢ f y) xs → IsOnce xs
  once_from [] apart v = omega arith
  once_from (x ∷ xs) apart v = by_case (once_from xs (AllPairs-tail (λ x y. f x ≢ f y) x xs apart) v) (cases_eq (f x) v)
    where
      by_case : count_of v xs ≤ 1 → (f x ≡ v) ⊎ (f x ≢ v) → count_of v (x ∷ xs) ≤ 1
      by_case more (inl e) = omega (arith, count-cons v x xs, one-same v (f x) e, none v xs (λ y m k. AllPairs-head (λ x y. f x ≢ f y) x xs apart y (Contains-from_Member y xs m) (e ∙ sym k)))
      by_case more (inr e) = omega (arith, count-cons v x xs, one-other v (f x) e, more)

  counted : (v : ℕ) (xs : List X) (i : ℕ) (d : X) → i < length xs → f (get_or xs i d) ≡ v → 1 ≤ count_of v xs
  counted v [] i d h e = absurd (omega arith)
  counted v (x ∷ xs) zero d h e = omega (arith, count-cons v x xs, one-same v (f x) e)
  counted v (x ∷ xs) (suc i) d h e = omega (arith, count-cons v x xs, counted v xs i d (omega arith) e)

  counted_twice : (v : ℕ) (xs : List X) (i j : ℕ) (d : X) → i < j → j < length xs → f (get_or xs i d) ≡ v → f (get_or xs j d) ≡ v → 2 ≤ count_of v xs
  counted_twice v [] i j d h k e g = absurd (omega arith)
  counted_twice v (x ∷ xs) i zero d h k e g = absurd (omega arith)
  counted_twice v (x ∷ xs) zero (suc j) d h k e g = omega (arith, count-cons v x xs, one-same v (f x) e, counted v xs j d (omega arith) g)
  counted_twice v (x ∷ xs) (suc i) (suc j) d h k e g = omega (arith, count-cons v x xs, counted_twice v xs i j d (omega arith) (omega arith) e g)

  -- a sort of items whose numbers differ
  module _ (T : TimetableData) (ranks : IsStrictWeakOrder (λ x y. precedes T (f x) (f y))) (xs ys : List X) (once : IsOnce xs) (p : IsPermutation xs ys) (up : IsSortedBy (λ x y. precedes T (f x) (f y)) ys) where
    differ : (i j : ℕ) (d : X) → i < j → j < length ys → f (get_or ys i d) ≢ f (get_or ys j d)
    differ i j d h k e =
        let v : ℕ = f (get_or ys j d) in
        omega (arith, counted_twice v ys i j d h k e refl, once v, sum_by-IsPermutation (λ x. one v (f x)) xs ys p)

    pub strictly : AllPairs (λ x y. TripPrecedes T (f x) (f y)) ys
    strictly i j d h k = by_case (TripPrecedes-total T (f (get_or ys i d)) (f (get_or ys j d)) (differ i j d h k))
      where
        by_case : TripPrecedes T (f (get_or ys i d)) (f (get_or ys j d)) ⊎ TripPrecedes T (f (get_or ys j d)) (f (get_or ys i d)) → TripPrecedes T (f (get_or ys i d)) (f (get_or ys j d))
        by_case (inl before) = before
        by_case (inr after) = absurd (false≢true (sym (sorted_far (λ x y. precedes T (f x) (f y)) ranks ys up i j d (omega arith) k) ∙ after))

-- trips of some of the lines are different if those of all are
pub once-filter : (q : List ℕ → Bool) (lines : List (List ℕ)) → IsOnce (λ t. t) (concat lines) → IsOnce (λ t. t) (concat (filter q lines))
once-filter q lines once v = omega (arith, once v, fewer lines)
  where
    fewer : (lines : List (List ℕ)) → count_of (λ t. t) v (concat (filter q lines)) ≤ count_of (λ t. t) v (concat lines)
    fewer [] = omega arith
    fewer (line ∷ lines) = by_test (fewer lines) (q line)
      where
        by_test : count_of (λ t. t) v (concat (filter q lines)) ≤ count_of (λ t. t) v (concat lines) → (b : Bool) → count_of (λ t. t) v (concat (cond b (line ∷ filter q lines) (filter q lines))) ≤ count_of (λ t. t) v (line ++ concat lines)
        by_test ih true = omega (arith, ih, sum_by-append (one v) line (concat (filter q lines)), sum_by-append (one v) line (concat lines))
        by_test ih false = omega (arith, ih, sum_by-append (one v) line (concat lines))

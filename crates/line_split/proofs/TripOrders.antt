-- A sort of all trips by their times, then by their numbers, is their order.
use Rattle.std.proofs.Common.{◌≡◌, ◌≢◌, ◌∙◌, sym, ap, refl, ℕ, zero, suc, ◌+◌, ◌<◌, ◌≤◌, ◌⊎◌, inl, inr, Bool, cond, ◌==◌, List, [], ◌∷◌, ◌++◌, length, get_or, arith, sum_by}
use Rattle.std.specs.List.{range_with_len}
use Rattle.std.specs.List.Sorted.{IsPermutation, IsSortedBy}
use Rattle.std.specs.Ordering.{nat_cmp, int_cmp, is_lt, ordering_then}
use Rattle.std.specs.Cmp.{IsStrictWeakOrder, nat_cmp_total, int_cmp_total, on_total, then_total}
use Rattle.std.specs.Cmp.Lexicographic.{slice_cmp, lists_total}
use Rattle.std.proofs.lemmas.Bool.{false≢true, cases_eq}
use Rattle.std.proofs.lemmas.List.Sums.{sum_by-cons}
use Rattle.std.proofs.lemmas.List.FromFn.{length-range_with_len, get_or-range_with_len}
use Rattle.std.proofs.lemmas.List.Elements.{All-from_get_or}
use Rattle.std.proofs.lemmas.List.Sorted.{ranks_by, sorted_far, All-permutation, Contains-permutation, sum_by-IsPermutation}
use Rattle.tb_base.specs.TimetableData.{TimetableData, events_of}
use Rattle.tb_base.specs.Lines.{times_of, TripPrecedes, IsTripOrder}
use Rattle.line_split.proofs.OrderLaws.{TripPrecedes-total}
use Rattle.tb_base.proofs.NumberFacts.{zero_more}
use Rattle.tb_base.proofs.Lists.{range_more}

pub range_one_more : (n : ℕ) → range_with_len 0 (n + 1) ≡ range_with_len 0 n ++ n ∷ []
range_one_more n = let e : n + 1 ≡ suc n = omega arith in let z : 0 + n ≡ n = omega arith in
    ap (range_with_len 0) e ∙ range_more 0 n ∙ ap (λ (k : ℕ). range_with_len 0 n ++ k ∷ []) z

-- ---- what is in some order of different numbers is different

abbrev one : ℕ → ℕ → ℕ
one v x = cond (x == v) 1 0

abbrev count : ℕ → List ℕ → ℕ
count v xs = sum_by (one v) xs

count-cons : (v x : ℕ) (xs : List ℕ) → count v (x ∷ xs) ≡ one v x + count v xs
count-cons v x xs = sum_by-cons (one v) x xs

one-same : (v x : ℕ) → x ≡ v → one v x ≡ 1
one-same v x h = grind arith

one-other : (v x : ℕ) → x ≢ v → one v x ≡ 0
one-other v x h = grind arith

not_before : (v a n : ℕ) → v < a → count v (range_with_len a n) ≡ 0
not_before v a zero h = refl
not_before v a (suc n) h = omega (arith, count-cons v a (range_with_len (a + 1) n), one-other v a (λ e. omega (arith, e, h)), not_before v (a + 1) n (omega (arith, h)))

at_most_once : (v a n : ℕ) → count v (range_with_len a n) ≤ 1
at_most_once v a zero = omega arith
at_most_once v a (suc n) = by_case (at_most_once v (a + 1) n) (cases_eq a v)
  where
    by_case : count v (range_with_len (a + 1) n) ≤ 1 → (a ≡ v) ⊎ (a ≢ v) → count v (range_with_len a (suc n)) ≤ 1
    by_case more (inl e) = omega (arith, count-cons v a (range_with_len (a + 1) n), one-same v a e, not_before v (a + 1) n (omega (arith, e)))
    by_case more (inr e) = omega (arith, count-cons v a (range_with_len (a + 1) n), one-other v a e, more)

counted : (v : ℕ) (xs : List ℕ) (i d : ℕ) → i < length xs → get_or xs i d ≡ v → 1 ≤ count v xs
counted v [] i d h e = absurd (omega arith)
counted v (x ∷ xs) zero d h e = omega (arith, count-cons v x xs, one-same v x e)
counted v (x ∷ xs) (suc i) d h e = omega (arith, count-cons v x xs, counted v xs i d (omega arith) e)

counted_twice : (v : ℕ) (xs : List ℕ) (i j d : ℕ) → i < j → j < length xs → get_or xs i d ≡ v → get_or xs j d ≡ v → 2 ≤ count v xs
counted_twice v [] i j d h k e f = absurd (omega arith)
counted_twice v (x ∷ xs) i zero d h k e f = absurd (omega arith)
counted_twice v (x ∷ xs) zero (suc j) d h k e f = omega (arith, count-cons v x xs, one-same v x e, counted v xs j d (omega arith) f)
counted_twice v (x ∷ xs) (suc i) (suc j) d h k e f = omega (arith, count-cons v x xs, counted_twice v xs i j d (omega arith) (omega arith) e f)

different : (n : ℕ) (xs : List ℕ) → IsPermutation (range_with_len 0 n) xs → (i j d : ℕ) → i < j → j < length xs → get_or xs i d ≢ get_or xs j d
different n xs p i j d h k e =
    let v : ℕ = get_or xs j d in
    omega (arith, counted_twice v xs i j d h k e refl, at_most_once v 0 n, sum_by-IsPermutation (one v) (range_with_len 0 n) xs p)

-- ---- the order

abbrev pub precedes : TimetableData → ℕ → ℕ → Bool
precedes T t u = is_lt (ordering_then (slice_cmp int_cmp (times_of (events_of T t)) (times_of (events_of T u))) (nat_cmp t u))

-- items by the trips that stand for them
pub ranks_of : {X : Type 0} (T : TimetableData) (f : X → ℕ) → IsStrictWeakOrder (λ x y. precedes T (f x) (f y))
ranks_of T f = ranks_by (then_total (on_total (λ t. times_of (events_of T t)) (lists_total int_cmp_total)) nat_cmp_total) f

pub precedes-ranks : (T : TimetableData) → IsStrictWeakOrder (precedes T)
precedes-ranks T = ranks_of T (λ t. t)

pub sorted_is_order : (T : TimetableData) (order : List ℕ) → IsPermutation (range_with_len 0 (length T.trips)) order → IsSortedBy (precedes T) order → IsTripOrder T order
sorted_is_order T order p up = record {
  trips = All-permutation (λ t. t < length T.trips) (range_with_len 0 (length T.trips)) order p
      (All-from_get_or (λ t. t < length T.trips) (range_with_len 0 (length T.trips)) 0 (λ i h. let l : i < length T.trips = omega (arith, h, length-range_with_len 0 (length T.trips)) in omega (arith, get_or-range_with_len 0 (length T.trips) i 0 l)));
  complete = λ t h. Contains-permutation (range_with_len 0 (length T.trips)) order t p (t, omega (arith, length-range_with_len 0 (length T.trips)), get_or-range_with_len 0 (length T.trips) t t h ∙ zero_more t);
  ordered = λ i j d h k. by_case i j d h k (TripPrecedes-total T (get_or order i d) (get_or order j d) (different (length T.trips) order p i j d h k));
}
  where
    by_case : (i j d : ℕ) → i < j → j < length order → TripPrecedes T (get_or order i d) (get_or order j d) ⊎ TripPrecedes T (get_or order j d) (get_or order i d) → TripPrecedes T (get_or order i d) (get_or order j d)
    by_case i j d h k (inl before) = before
    by_case i j d h k (inr after) = absurd (false≢true (sym (sorted_far (precedes T) (precedes-ranks T) order up i j d (omega arith) k) ∙ after))

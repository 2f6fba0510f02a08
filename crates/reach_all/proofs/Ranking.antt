-- The times of a rank, of times in order.
use Rattle.std.proofs.Common.{◌≡◌, ◌∙◌, ℕ, zero, suc, ◌+◌, ◌-◌, ◌<◌, ◌≤◌, inl, inr, List, [], ◌∷◌, ◌++◌, Bool, true, false, cond, length, get_or, map, take, refl, sym, ap, subst, arith, Option, Some, None, ℤ, ◌≤ℤ◌, ◌<ℤ◌}
use Rattle.std.specs.Prelude.{AllPairs, int_le, is_some, slice_get, count_by}
use Rattle.std.specs.List.Sorted.{IsPermutation, IsSorted}
use Rattle.std.specs.Ordering.{int_cmp}
use Rattle.std.proofs.lemmas.Bool.Decides.{nat_tests}
use Rattle.std.proofs.lemmas.Cmp.{int_cmp_total}
use Rattle.std.proofs.lemmas.Int.{ints}
use Rattle.std.proofs.lemmas.List.{append-nil, get_or_append_left, get_or_default, get_or_push, length-append, map-append, take_more}
use Rattle.std.proofs.lemmas.List.Sorted.{length_permutation, ranks_by, sorted_far, sum_by-IsPermutation}
use Rattle.std.proofs.lemmas.List.Sums.{count_by-le-length, sum_by-cons}
use Rattle.tb_base.specs.BestValues.{IsLeast}
use Rattle.tb_base.proofs.NumberFacts.{below_or_at, int_le-true, int_le-false, le-int_le}
use Rattle.tb_base.proofs.Ordered.{AllPairs-head, AllPairs-tail, Contains-from_Member, Member}
use Rattle.reach_all.specs.TravelTimes.{AreFigures, IsRanked, is_within, nearest_rank}
use Rattle.reach_all.specs.Ranks.{figures_in_order, ranked, reached_times}

-- how many are no longer
abbrev pub within : ℤ → List ℤ → ℕ
within secs times = count_by (λ time. int_le time secs) times

abbrev pub AreInOrder : List ℤ → Type 0
AreInOrder times = AllPairs (λ m n. m ≤ℤ n) times

count-cons : {X : Type 0} (p : X → Bool) (x : X) (xs : List X) → count_by p (x ∷ xs) ≡ cond (p x) 1 0 + count_by p xs
count-cons p x xs = sum_by-cons (λ y. cond (p y) 1 0) x xs

-- each travel time of a departure that reaches the stop counts
within-reached : (secs : ℤ) (times : List (Option ℤ)) → within secs (reached_times times) ≡ count_by (is_within secs) times
within-reached secs [] = refl
within-reached secs (None ∷ times) = within-reached secs times
within-reached secs (Some time ∷ times) =
    count-cons (λ t. int_le t secs) time (reached_times times) ∙ (ap (λ n. cond (int_le time secs) 1 0 + n) (within-reached secs times) ∙ sym (count-cons (is_within secs) (Some time) times))

length-reached : (times : List (Option ℤ)) → length (reached_times times) ≡ count_by (λ time. is_some time) times
length-reached [] = refl
length-reached (None ∷ times) = length-reached times
length-reached (Some time ∷ times) =
    let k : count_by (λ (t : Option ℤ). is_some t) (Some time ∷ times) ≡ 1 + count_by (λ (t : Option ℤ). is_some t) times = count-cons (λ (t : Option ℤ). is_some t) (Some time) times in
    let h = length-reached times in omega (arith, h, k)

-- how many are no longer, with one more that is and with one that is not
within_yes : (secs x : ℤ) (xs : List ℤ) → int_le x secs ≡ true → within secs (x ∷ xs) ≡ 1 + within secs xs
within_yes secs x xs e = count-cons (λ t. int_le t secs) x xs ∙ ap (λ b. cond b 1 0 + within secs xs) e

within_no : (secs x : ℤ) (xs : List ℤ) → int_le x secs ≡ false → within secs (x ∷ xs) ≡ 0 + within secs xs
within_no secs x xs e = count-cons (λ t. int_le t secs) x xs ∙ ap (λ b. cond b 1 0 + within secs xs) e

-- none is as short as something below the least
none_within : (x : ℤ) (xs : List ℤ) → ((y : ℤ) → Member y xs → x ≤ℤ y) → (secs : ℤ) → secs <ℤ x → within secs xs ≡ 0
none_within x [] least secs below = refl
none_within x (y ∷ ys) least secs below = by_test (int_le y secs) refl (none_within x ys (λ z m. least z (inr m)) secs below)
  where
    over : (a b s : ℤ) → a ≤ℤ b → s <ℤ a → b ≤ℤ s → ⊥
    over a b s g h k = omega (arith, ints, g, h, k)

    by_test : (b : Bool) → b ≡ int_le y secs → within secs ys ≡ 0 → within secs (y ∷ ys) ≡ 0
    by_test true e h = absurd (over x y secs (least y (inl refl)) below (int_le-true y secs (sym e)))
    by_test false e h = let k = within_no secs y ys (sym e) in omega (arith, h, k)

-- times in order, with one before them
module _ (x : ℤ) (xs : List ℤ) (least : (y : ℤ) → Member y xs → x ≤ℤ y) where
  one : (secs : ℤ) (n : ℕ) → n + 1 ≤ within secs (x ∷ xs) → int_le x secs ≡ true
  one secs n h = by_test (int_le x secs) refl
    where
      by_test : (b : Bool) → b ≡ int_le x secs → int_le x secs ≡ true
      by_test true e = sym e
      by_test false e = absurd (let k = within_no secs x xs (sym e) in let z = none_within x xs least secs (int_le-false x secs (sym e)) in omega (arith, h, k, z))

  more : (secs : ℤ) (n : ℕ) → n + 1 ≤ within secs xs → n + 2 ≤ within secs (x ∷ xs)
  more secs n h = by_test (int_le x secs) refl
    where
      by_test : (b : Bool) → b ≡ int_le x secs → n + 2 ≤ within secs (x ∷ xs)
      by_test true e = let k = within_yes secs x xs (sym e) in omega (arith, h, k)
      by_test false e = absurd (let z = none_within x xs least secs (int_le-false x secs (sym e)) in omega (arith, h, z))

  fewer : (secs : ℤ) (n : ℕ) → n + 2 ≤ within secs (x ∷ xs) → n + 1 ≤ within secs xs
  fewer secs n h = let e = one secs (n + 1) (omega (arith, h)) in let k = within_yes secs x xs e in omega (arith, h, k)

  first : IsLeast (λ secs. 1 ≤ within secs (x ∷ xs)) (Some x)
  first = (let k = within_yes x x xs (le-int_le x x (omega (arith, ints))) in omega (arith, k), λ secs h. int_le-true x secs (one secs 0 h))

  further : (n : ℕ) (o : Option ℤ) → IsLeast (λ secs. n + 1 ≤ within secs xs) o → IsLeast (λ secs. n + 2 ≤ within secs (x ∷ xs)) o
  further n None h = λ secs k. h secs (fewer secs n k)
  further n (Some m) h = (more m n h.0, λ secs k. h.1 secs (fewer secs n k))

-- the time of a rank is the least within which there are so many
pub ranked-least : (xs : List ℤ) (r : ℕ) → AreInOrder xs → IsLeast (λ secs. r + 1 ≤ within secs xs) (slice_get xs r)
ranked-least [] r order = λ secs h. absurd (omega (arith, h))
ranked-least (x ∷ xs) zero order = first x xs (λ y m. AllPairs-head (λ a b. a ≤ℤ b) x xs order y (Contains-from_Member y xs m))
ranked-least (x ∷ xs) (suc r) order =
    subst (λ n. IsLeast (λ secs. n ≤ within secs (x ∷ xs)) (slice_get xs r)) (let e : r + 2 ≡ suc r + 1 = omega arith in e)
    (further x xs (λ y m. AllPairs-head (λ a b. a ≤ℤ b) x xs order y (Contains-from_Member y xs m)) r (slice_get xs r) (ranked-least xs r (AllPairs-tail (λ a b. a ≤ℤ b) x xs order)))

module _ (times : List (Option ℤ)) (sorted : List ℤ) (order : AreInOrder sorted) (same : IsPermutation (reached_times times) sorted) where
  counts : (secs : ℤ) → within secs sorted ≡ count_by (is_within secs) times
  counts secs = sum_by-IsPermutation (λ time. cond (int_le time secs) 1 0) (reached_times times) sorted same ∙ within-reached secs times

  least_of : (rank : ℕ) (o : Option ℤ) → IsLeast (λ secs. rank ≤ within secs sorted) o → IsRanked rank times o
  least_of rank None h = λ secs k. h secs (subst (λ n. rank ≤ n) (sym (counts secs)) k)
  least_of rank (Some m) h = (subst (λ n. rank ≤ n) (counts m) h.0, λ secs k. h.1 secs (subst (λ n. rank ≤ n) (sym (counts secs)) k))

  of_rank : (rank : ℕ) → 1 ≤ rank → IsRanked rank times (ranked rank sorted)
  of_rank rank some = least_of rank (slice_get sorted (rank - 1)) (subst (λ r. IsLeast (λ secs. r ≤ within secs sorted) (slice_get sorted (rank - 1))) (let e : rank - 1 + 1 ≡ rank = omega (arith, some) in e) (ranked-least sorted (rank - 1) order))

  pub few_reached : length sorted ≤ length times
  few_reached = let n = length_permutation (reached_times times) sorted same in let m = length-reached times in let k = count_by-le-length (λ time. is_some time) times in omega (arith, n, m, k)

  pub figures : 0 < length times → AreFigures times (figures_in_order sorted (length times))
  figures some = record {
    reached = length_permutation (reached_times times) sorted same ∙ length-reached times;
    least = of_rank 1 (omega arith);
    percentile_5 = of_rank (nearest_rank 5 (length times)) (omega (arith, some));
    percentile_25 = of_rank (nearest_rank 25 (length times)) (omega (arith, some));
    percentile_50 = of_rank (nearest_rank 50 (length times)) (omega (arith, some));
    percentile_75 = of_rank (nearest_rank 75 (length times)) (omega (arith, some));
    percentile_95 = of_rank (nearest_rank 95 (length times)) (omega (arith, some));
    greatest = of_rank (length times) (omega (arith, some));
  }

-- what is sorted is in order
pub in_order : (xs : List ℤ) → IsSorted int_cmp xs → AreInOrder xs
in_order xs up = λ i j d before inside. no_less (get_or xs i d) (get_or xs j d) (sorted_far _ (ranks_by int_cmp_total (λ x. x)) xs up i j d (omega (arith, before)) inside)
  where
    no_less : (a b : ℤ) → Rattle.std.specs.Ordering.is_lt (int_cmp b a) ≡ false → a ≤ℤ b
    no_less a b e = grind (arith, ints, nat_tests, e)

-- the reached times, with one more
pub reached-more : (times : List (Option ℤ)) (time : Option ℤ) → reached_times (times ++ time ∷ []) ≡ reached_times times ++ reached_times (time ∷ [])
reached-more [] time = refl
reached-more (None ∷ times) time = reached-more times time
reached-more (Some x ∷ times) time = ap (λ xs. x ∷ xs) (reached-more times time)

-- one more of the times by departures
pub reached-step : {V : Type 0} (f : V → Option ℤ) (lists : List V) (k : ℕ) (list : V) (times : List ℤ) → k < length lists → list ≡ get_or lists k list → times ≡ reached_times (map f (take k lists)) → times ++ reached_times (f list ∷ []) ≡ reached_times (map f (take (k + 1) lists))
reached-step f lists k list times inside is before =
    ap (λ xs. xs ++ reached_times (f list ∷ [])) before
    ∙ (sym (reached-more (map f (take k lists)) (f list))
    ∙ ap reached_times (sym (map-append f (take k lists) (list ∷ [])) ∙ ap (map f) (sym (take_more lists k list inside ∙ ap (λ x. take k lists ++ x ∷ []) (sym is)))))

-- the lists by stops looked at, with one more that has a time at the stop, or none
module _ {V : Type 0} (items : V → List (Option ℤ)) (lists : List V) (stop k : ℕ) (list : V) (value : Option ℤ) (times : List ℤ) (inside : k < length lists) (is : list ≡ get_or lists k list) (stops : (j : ℕ) (d : V) → j < length lists → stop < length (items (get_or lists j d))) (read : value ≡ get_or (items list) stop value)
    (before : times ≡ reached_times (map (λ l. get_or (items l) stop None) (take k lists))) where
  at_stop : get_or (items list) stop None ≡ value
  at_stop = get_or_default (items list) stop None value (subst (λ l. stop < length (items l)) (sym is) (stops k list inside)) ∙ sym read

  next : (o : Option ℤ) → value ≡ o → times ++ reached_times (o ∷ []) ≡ reached_times (map (λ l. get_or (items l) stop None) (take (k + 1) lists))
  next o e = subst (λ x. times ++ reached_times (x ∷ []) ≡ reached_times (map (λ l. get_or (items l) stop None) (take (k + 1) lists))) (at_stop ∙ e) (reached-step (λ l. get_or (items l) stop None) lists k list times inside is before)

  pub gather_some : (time : ℤ) (new : List ℤ) → value ≡ Some time → new ≡ times ++ time ∷ [] → new ≡ reached_times (map (λ l. get_or (items l) stop None) (take (k + 1) lists))
  gather_some time new e f = f ∙ next (Some time) e

  pub gather_none : value ≡ None → times ≡ reached_times (map (λ l. get_or (items l) stop None) (take (k + 1) lists))
  gather_none e = sym (append-nil times) ∙ next None e

-- what holds of the items of a list by their numbers, with one item more
pub all_more : {X : Type 0} (P : ℕ → X → Type 0) (xs new : List X) (n : ℕ) (x : X) → length xs ≡ n → ((p : ℕ) (d : X) → p < n → P p (get_or xs p d)) → P n x → new ≡ xs ++ x ∷ [] → (length new ≡ n + 1) × ((p : ℕ) (d : X) → p < n + 1 → P p (get_or new p d))
all_more P xs new n x long before this is = (
  ap length is ∙ (length-append xs (x ∷ []) ∙ ap (λ k. k + 1) long),
  λ p d below. elim (below_or_at p n below) [
    | inl h ↦ subst (P p) (sym (ap (λ ys. get_or ys p d) is ∙ get_or_append_left xs (x ∷ []) d p (omega (arith, h, long)))) (before p d h)
    | inr e ↦ subst (P p) (sym (ap (λ ys. get_or ys p d) is ∙ get_or_push xs x d p (long ∙ sym e))) (subst (λ q. P q x) (sym e) this)
  ],
)

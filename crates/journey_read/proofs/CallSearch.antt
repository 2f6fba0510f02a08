-- A call is found by halving.
use Rattle.std.proofs.Common.{◌≡◌, ◌∙◌, refl, ap, sym, subst, ℕ, ◌<◌, ◌≤◌, Bool, true, false, List, length, get_or, Some, None, inl, inr, ◌==◌, ◌&&◌, arith, ℤ}
use Rattle.std.specs.Prelude.{Contains}
use Rattle.std.specs.Cmp.{IsStrictWeakOrder, nat_cmp_total, int_cmp_total, on_total, then_total}
use Rattle.std.specs.List.Sorted.{IsPartitionedBy, IsPartitionPoint, IsSortedBy}
use Rattle.std.specs.Ordering.{int_cmp, int_eq, is_lt, nat_cmp, ordering_then}
use Rattle.std.specs.declared.cmp.Ordering.{Ordering}
use Rattle.std.specs.declared.cmp.Ordering.TheVariants.{Less, Equal, Greater}
use Rattle.std.proofs.lemmas.Bool.{cases_lt, false≢true}
use Rattle.std.proofs.lemmas.Bool.Decides.{Decides-int_eq, nat_tests}
use Rattle.std.proofs.lemmas.Int.{ints}
use Rattle.std.proofs.lemmas.List.{get_or_default}
use Rattle.std.proofs.lemmas.List.Elements.{Contains-get_or}
use Rattle.std.proofs.lemmas.List.Sorted.{ranks_by, sorted_far}
use Rattle.journey_read.specs.declared.calls.Call.{Call}
use Rattle.journey_read.specs.Calls.{IsFirstCall, compare_calls, is_at, moved_call}

abbrev pub precedes : Call → Call → Bool
precedes c d = is_lt (compare_calls c d)

pub precedes-ranks : IsStrictWeakOrder precedes
precedes-ranks =
    ranks_by
    (then_total (then_total (on_total (λ (c : Call). c.stop) nat_cmp_total) (on_total (λ (c : Call). c.time) int_cmp_total)) (on_total (λ (c : Call). c.at) nat_cmp_total))
    (λ c. c)

pub calls_partitioned : (calls : List Call) (w : Call) → IsSortedBy precedes calls → IsPartitionedBy (λ c. precedes c w) calls
calls_partitioned calls w up i j d low below later = by_test (precedes (get_or calls i d) w) refl
  where
    by_test : (b : Bool) → b ≡ precedes (get_or calls i d) w → precedes (get_or calls i d) w ≡ true
    by_test true e = sym e
    by_test false e =
        absurd (false≢true (sym (precedes-ranks.chain (get_or calls j d) (get_or calls i d) w (sorted_far precedes precedes-ranks calls up i j d low below) (sym e)) ∙ later))

not_less : (m n : ℕ) → is_lt (nat_cmp m n) ≡ false → n ≤ m
not_less m n h = grind (arith, nat_tests, h)

nat_equal : (m n : ℕ) → nat_cmp m n ≡ Equal → m ≡ n
nat_equal m n h = grind (arith, nat_tests, h)

nat_greater : (m n : ℕ) → nat_cmp m n ≡ Greater → nat_cmp n m ≡ Less
nat_greater m n h = grind (arith, nat_tests, h)

nat_same : (n : ℕ) → nat_cmp n n ≡ Equal
nat_same n = grind (arith, nat_tests)

int_equal : (m n : ℤ) → int_cmp m n ≡ Equal → m ≡ n
int_equal m n h = grind (arith, ints, h)

int_greater : (m n : ℤ) → int_cmp m n ≡ Greater → int_cmp n m ≡ Less
int_greater m n h = grind (arith, ints, h)

int_same : (n : ℤ) → int_cmp n n ≡ Equal
int_same n = grind (arith, ints)

not_less_from : (m n : ℕ) → n ≤ m → is_lt (nat_cmp m n) ≡ false
not_less_from m n h = grind (arith, nat_tests, h)

-- a call with a stop and a time is not before that with the same and an index no greater
pub not_before : (w : Call) (i : ℕ) → w.at ≤ i → precedes (moved_call w i) w ≡ false
not_before w i h = rw (nat_same w.stop, int_same w.time) (not_less_from i w.at h)

-- what stands between two calls with one stop and time has these too
module _ (w x : Call) (i : ℕ) where
  abbrev Between : Type 0
  Between = (x.stop ≡ w.stop) × (x.time ≡ w.time) × (w.at ≤ x.at) × (x.at ≤ i)

  same_times : (x.stop ≡ w.stop) → (x.time ≡ w.time) → is_lt (nat_cmp x.at w.at) ≡ false → precedes (moved_call w i) x ≡ false → Between
  same_times stops times first second =
      let one : nat_cmp w.stop x.stop ≡ Equal = subst (λ n. nat_cmp n x.stop ≡ Equal) stops (nat_same x.stop) in
      let two : int_cmp w.time x.time ≡ Equal = subst (λ n. int_cmp n x.time ≡ Equal) times (int_same x.time) in
      let rest : is_lt (nat_cmp i x.at) ≡ false = rw (one, two) at second in
      (stops, times, not_less x.at w.at first, not_less i x.at rest)

  by_times : (o : Ordering) → int_cmp x.time w.time ≡ o → x.stop ≡ w.stop → is_lt (ordering_then o (nat_cmp x.at w.at)) ≡ false → precedes (moved_call w i) x ≡ false → Between
  by_times Less is stops first second = absurd (false≢true (sym first))
  by_times Equal is stops first second = same_times stops (int_equal x.time w.time is) first second
  by_times Greater is stops first second =
      let one : nat_cmp w.stop x.stop ≡ Equal = subst (λ n. nat_cmp n x.stop ≡ Equal) stops (nat_same x.stop) in
      let two : int_cmp w.time x.time ≡ Less = int_greater x.time w.time is in
      let clash : true ≡ false = rw (one, two) at second in
      absurd (false≢true (sym clash))

  by_stops : (o : Ordering) → nat_cmp x.stop w.stop ≡ o → is_lt (ordering_then (ordering_then o (int_cmp x.time w.time)) (nat_cmp x.at w.at)) ≡ false → precedes (moved_call w i) x ≡ false → Between
  by_stops Less is first second = absurd (false≢true (sym first))
  by_stops Equal is first second = by_times (int_cmp x.time w.time) refl (nat_equal x.stop w.stop is) first second
  by_stops Greater is first second =
      let one : nat_cmp w.stop x.stop ≡ Less = nat_greater x.stop w.stop is in
      let clash : true ≡ false = rw one at second in
      absurd (false≢true (sym clash))

  pub squeezed : precedes x w ≡ false → precedes (moved_call w i) x ≡ false → Between
  squeezed first second = by_stops (nat_cmp x.stop w.stop) refl first second

parts_of : (a b : Bool) → (a && b) ≡ true → (a ≡ true) × (b ≡ true)
parts_of true true h = (refl, refl)
parts_of true false h = absurd (false≢true h)
parts_of false b h = absurd (false≢true h)

nat_is : (m n : ℕ) → (m == n) ≡ true → m ≡ n
nat_is m n h = grind (arith, nat_tests, h)

nat_is_from : (m n : ℕ) → m ≡ n → (m == n) ≡ true
nat_is_from m n h = grind (arith, nat_tests, h)

-- the test of a stop and a time
pub same_stop_and_time : (s p : ℕ) (time when : ℤ) → ((s == p) && int_eq time when) ≡ true → (s ≡ p) × (time ≡ when)
same_stop_and_time s p time when h = (let parts = parts_of (s == p) (int_eq time when) h in (nat_is s p parts.0, (Decides-int_eq time when).0 parts.1))

pub same_stop_and_time_from : (s p : ℕ) (time when : ℤ) → s ≡ p → time ≡ when → ((s == p) && int_eq time when) ≡ true
same_stop_and_time_from s p time when stops times = rw (nat_is_from s p stops, (Decides-int_eq time when).1 times) refl

module _ (calls : List Call) (w : Call) (up : IsSortedBy precedes calls) (k : ℕ)
    (parts : IsPartitionPoint (λ c. precedes c w ≡ true) (λ c. precedes c w ≡ false) calls k) where
  -- a call that is wanted stands at the place or behind it
  behind : (i : ℕ) → w.at ≤ i → (has : Contains calls (moved_call w i)) → k ≤ has.0
  behind i low (j, inside, is) = elim (cases_lt j k) [
    | inr from ↦ from
    | inl before ↦
        let early : precedes (moved_call w i) w ≡ true = subst (λ c. precedes c w ≡ true) is (parts.0 j (moved_call w i) (omega arith) before) in
        absurd (false≢true (sym (not_before w i low) ∙ early))
  ]

  pub none_past : length calls ≤ k → (i : ℕ) → w.at ≤ i → Contains calls (moved_call w i) → ⊥
  none_past past i low has = let from = behind i low has in let inside = has.1 in absurd (omega (arith, past, from, inside))

  module _ (x : Call) (inside : k < length calls) (at : x ≡ get_or calls k x) where
    here : precedes x w ≡ false
    here = subst (λ c. precedes c w ≡ false) (sym at) (parts.1 k x (omega arith) inside)

    between : (i : ℕ) → w.at ≤ i → Contains calls (moved_call w i) → Between w x i
    between i low has = squeezed w x i here (later has (behind i low has)) where
      later : (has : Contains calls (moved_call w i)) → k ≤ has.0 → precedes (moved_call w i) x ≡ false
      later (j, below, is) from =
          let far : precedes (get_or calls j x) (get_or calls k x) ≡ false = sorted_far precedes precedes-ranks calls up k j x from below in
          let there : get_or calls j x ≡ moved_call w i = get_or_default calls j x (moved_call w i) below ∙ is in
          subst (λ c. precedes c x ≡ false) there (subst (λ c. precedes (get_or calls j x) c ≡ false) (sym at) far)

    pub other_first : is_at x w ≡ false → IsFirstCall calls w None
    other_first other i low has =
        let here = between i low has in
        absurd (false≢true (sym other ∙ same_stop_and_time_from x.stop w.stop x.time w.time here.0 here.1))

    pub found_first : is_at x w ≡ true → IsFirstCall calls w (Some x.at)
    found_first test = found (same_stop_and_time x.stop w.stop x.time w.time test).0 (same_stop_and_time x.stop w.stop x.time w.time test).1
      where
        same_call : x.stop ≡ w.stop → x.time ≡ w.time → x ≡ moved_call w x.at
        same_call stops times = λ i. record { stop = stops i; time = times i; at = x.at }

        no_less : x.stop ≡ w.stop → x.time ≡ w.time → w.at ≤ x.at
        no_less stops times =
            let rest : is_lt (nat_cmp x.at w.at) ≡ false = rw (ap (λ n. nat_cmp n w.stop) stops ∙ nat_same w.stop, ap (λ n. int_cmp n w.time) times ∙ int_same w.time) at here in
            not_less x.at w.at rest

        found : x.stop ≡ w.stop → x.time ≡ w.time → IsFirstCall calls w (Some x.at)
        found stops times =
            let is : get_or calls k x ≡ moved_call w x.at = sym at ∙ same_call stops times in
            let has : Contains calls (moved_call w x.at) = subst (Contains calls) is (Contains-get_or calls k x inside) in
            (no_less stops times, has, λ i low there. (between i low there).3)

-- Each timetable has an order of its trips.
use Rattle.std.proofs.Common.{◌≡◌, ◌≢◌, ◌∙◌, sym, subst, refl, ℕ, zero, suc, ◌<◌, ◌⊎◌, inl, inr, Bool, true, false, cond, List, [], ◌∷◌, length, arith}
use Rattle.std.specs.Prelude.{AllPairs}
use Rattle.std.proofs.lemmas.Bool.{false≢true, cases_eq}
use Rattle.tb_base.specs.TimetableData.{TimetableData}
use Rattle.tb_base.specs.Lines.{IsTripOrder, TripPrecedes}
use Rattle.tb_base.proofs.Ordered.{Contains-from_Member, Member, AllPairs-head, AllPairs-tail}
use Rattle.tb_base.proofs.Members.{All-from_Member, AllPairs-cons}
use Rattle.tb_base.proofs.NumberFacts.{below_or_last}
use Rattle.line_split.proofs.LineLaws.{one_alone}
use Rattle.line_split.proofs.OrderLaws.{TripPrecedes-total}
use Rattle.line_split.proofs.TripOrders.{precedes, precedes-ranks}

module _ (T : TimetableData) where
  -- which trip comes first is passed on
  precedes-trans : (t u v : ℕ) → TripPrecedes T t u → TripPrecedes T u v → TripPrecedes T t v
  precedes-trans t u v h k = by_test (precedes T t v) refl (cases_eq t v)
    where
      back : precedes T v t ≡ false
      back = (precedes-ranks T).chain v u t ((precedes-ranks T).one_way u v k) ((precedes-ranks T).one_way t u h)

      by_side : TripPrecedes T t v ⊎ TripPrecedes T v t → TripPrecedes T t v
      by_side (inl before) = before
      by_side (inr after) = absurd (false≢true (sym back ∙ after))

      by_test : (b : Bool) → b ≡ precedes T t v → (t ≡ v) ⊎ (t ≢ v) → TripPrecedes T t v
      by_test b e (inl same) =
          let there : TripPrecedes T u t = subst (λ w. TripPrecedes T u w) (sym same) k in
          absurd (false≢true (sym ((precedes-ranks T).one_way t u h) ∙ there))
      by_test b e (inr other) = by_side (TripPrecedes-total T t v other)

  abbrev insert_trip : ℕ → List ℕ → List ℕ
  insert_trip t [] = t ∷ []
  insert_trip t (u ∷ us) = cond (precedes T t u) (t ∷ u ∷ us) (u ∷ insert_trip t us)

  inserted : (t x : ℕ) (us : List ℕ) → Member x (insert_trip t us) → (t ≡ x) ⊎ Member x us
  inserted t x [] (inl e) = inl e
  inserted t x [] (inr m) = absurd m
  inserted t x (u ∷ us) m = by_test (inserted t x us) (precedes T t u) m
    where
      by_test : (Member x (insert_trip t us) → (t ≡ x) ⊎ Member x us) → (b : Bool) → Member x (cond b (t ∷ u ∷ us) (u ∷ insert_trip t us)) → (t ≡ x) ⊎ Member x (u ∷ us)
      by_test ih true (inl e) = inl e
      by_test ih true (inr m) = inr m
      by_test ih false (inl e) = inr (inl e)
      by_test ih false (inr m) = elim (ih m) [ inl e ↦ inl e | inr k ↦ inr (inr k) ]

  insert-new : (t : ℕ) (us : List ℕ) → Member t (insert_trip t us)
  insert-new t [] = inl refl
  insert-new t (u ∷ us) = by_test (insert-new t us) (precedes T t u)
    where
      by_test : Member t (insert_trip t us) → (b : Bool) → Member t (cond b (t ∷ u ∷ us) (u ∷ insert_trip t us))
      by_test ih true = inl refl
      by_test ih false = inr ih

  insert-old : (t x : ℕ) (us : List ℕ) → Member x us → Member x (insert_trip t us)
  insert-old t x [] m = absurd m
  insert-old t x (u ∷ us) m = by_test (insert-old t x us) (precedes T t u) m
    where
      by_test : (Member x us → Member x (insert_trip t us)) → (b : Bool) → Member x (u ∷ us) → Member x (cond b (t ∷ u ∷ us) (u ∷ insert_trip t us))
      by_test ih true m = inr m
      by_test ih false (inl e) = inl e
      by_test ih false (inr m) = inr (ih m)

  insert-ordered : (t : ℕ) (us : List ℕ) → ((u : ℕ) → Member u us → u ≢ t) → AllPairs (TripPrecedes T) us → AllPairs (TripPrecedes T) (insert_trip t us)
  insert-ordered t [] other up = one_alone T (TripPrecedes T) t
  insert-ordered t (u ∷ us) other up =
      by_test (insert-ordered t us (λ x m. other x (inr m)) (AllPairs-tail (TripPrecedes T) u us up)) (precedes T t u) refl
    where
      first : (x : ℕ) → Member x us → TripPrecedes T u x
      first x m = AllPairs-head (TripPrecedes T) u us up x (Contains-from_Member x us m)

      by_test : AllPairs (TripPrecedes T) (insert_trip t us) → (b : Bool) → b ≡ precedes T t u → AllPairs (TripPrecedes T) (cond b (t ∷ u ∷ us) (u ∷ insert_trip t us))
      by_test ih true e = AllPairs-cons (TripPrecedes T) t (u ∷ us) (λ x m. behind x m) up
        where
          here : TripPrecedes T t u
          here = sym e

          behind : (x : ℕ) → Member x (u ∷ us) → TripPrecedes T t x
          behind x (inl same) = subst (λ y. TripPrecedes T t y) same here
          behind x (inr m) = precedes-trans t u x here (first x m)
      by_test ih false e = AllPairs-cons (TripPrecedes T) u (insert_trip t us) (λ x m. behind x (inserted t x us m)) ih
        where
          before : TripPrecedes T u t
          before = elim (TripPrecedes-total T u t (other u (inl refl))) [ inl h ↦ h | inr h ↦ absurd (false≢true (e ∙ h)) ]

          behind : (x : ℕ) → (t ≡ x) ⊎ Member x us → TripPrecedes T u x
          behind x (inl same) = subst (λ y. TripPrecedes T u y) same before
          behind x (inr m) = first x m

  -- the first n trips in order
  abbrev trips_below : ℕ → List ℕ
  trips_below zero = []
  trips_below (suc n) = insert_trip n (trips_below n)

  below : (n x : ℕ) → Member x (trips_below n) → x < n
  below zero x m = absurd m
  below (suc n) x m = elim (inserted n x (trips_below n) m) [ inl e ↦ omega (arith, e) | inr k ↦ omega (arith, below n x k) ]

  all_below : (n x : ℕ) → x < n → Member x (trips_below n)
  all_below zero x h = absurd (omega (arith, h))
  all_below (suc n) x h = elim (below_or_last x n h) [ inl k ↦ insert-old n x (trips_below n) (all_below n x k) | inr e ↦ subst (λ y. Member y (insert_trip n (trips_below n))) (sym e) (insert-new n (trips_below n)) ]

  below-ordered : (n : ℕ) → AllPairs (TripPrecedes T) (trips_below n)
  below-ordered zero = λ i j d before inside. absurd (omega (arith, before, inside))
  below-ordered (suc n) = insert-ordered n (trips_below n) (λ u m e. omega (arith, below n u m, e)) (below-ordered n)

  abbrev pub trip_order_of : List ℕ
  trip_order_of = trips_below (length T.trips)

  pub trip_order_is : IsTripOrder T trip_order_of
  trip_order_is = record {
    trips = All-from_Member (λ t. t < length T.trips) trip_order_of (below (length T.trips));
    complete = λ t h. Contains-from_Member t trip_order_of (all_below (length T.trips) t h);
    ordered = below-ordered (length T.trips);
  }

-- Arrivals that take one ride after another.
use Rattle.std.proofs.Common.{◌≡◌, ◌≢◌, ℕ, zero, suc, ◌<◌, ◌≤◌, ◌+◌, ◌⊎◌, inl, inr, List, [], ◌∷◌, ◌++◌, length, get_or, set, refl, sym, ap, subst, ◌∙◌, arith, Option, None, Some, ℤ, ◌≤ℤ◌, ◌<ℤ◌}
use Rattle.std.specs.Prelude.{slice_get, IsSomeAnd, IfSome}
use Rattle.std.proofs.lemmas.Int.{ints}
use Rattle.std.proofs.lemmas.List.{length-set, get_or-set_same, get_or-set_other, length_push}
use Rattle.std.proofs.lemmas.Bool.{cases_eq, cases_lt}
use Rattle.tb_base.specs.TimetableData.{TimetableData, events_of, event_at, stop_at, arrival_at, MayAlight}
use Rattle.tb_base.specs.Journeys.{alighting_stop, alighting_time}
use Rattle.plain_rounds.specs.declared.arrivals.StopArrivals.{StopArrivals}
use Rattle.plain_rounds.specs.declared.arrivals.FirstBoarding.{FirstBoarding}
use Rattle.plain_rounds.specs.declared.arrivals.PlainRide.{PlainRide}
use Rattle.plain_rounds.specs.declared.labels.StopLabel.{StopLabel}
use Rattle.plain_rounds.specs.Labels.{IsNoLaterAt, IsLaterAt, label_at}
use Rattle.plain_rounds.specs.Rounds.{ride_of, LetsBoard, NoneBoards, IsBoardable, IsAlong, IsLabelOf, IsLeftBehind, TakesRides}
use Rattle.tb_base.proofs.NumberFacts.{below_or_at, ≤ℤ-same}

-- one more step at the end of the list
slice_get-push : {X : Type 0} (xs : List X) (y x : X) (n : ℕ) → slice_get xs n ≡ Some x → slice_get (xs ++ y ∷ []) n ≡ Some x
slice_get-push [] y x n h = cc
slice_get-push (z ∷ zs) y x zero h = h
slice_get-push (z ∷ zs) y x (suc n) h = slice_get-push zs y x n h

slice_get-pushed : {X : Type 0} (xs : List X) (y : X) → slice_get (xs ++ y ∷ []) (length xs) ≡ Some y
slice_get-pushed [] y = refl
slice_get-pushed (z ∷ zs) y = slice_get-pushed zs y

-- what holds of each number of a list, after a write of one
pub set_each : (xs : List ℕ) (i x : ℕ) (P : ℕ → ℕ → Type 0) → i < length xs → P i x → ((k : ℕ) → P k (get_or xs k 0)) → (k : ℕ) → P k (get_or (set xs i x) k 0)
set_each xs i x P inside here all k = by_case (cases_eq k i)
  where
    by_case : (k ≡ i) ⊎ (k ≢ i) → P k (get_or (set xs i x) k 0)
    by_case (inl e) = subst (λ j. P j (get_or (set xs i x) j 0)) (sym e) (subst (λ y. P i y) (sym (get_or-set_same xs i x 0 inside)) here)
    by_case (inr far) = subst (λ y. P k y) (sym (get_or-set_other xs i k x 0 far)) (all k)

-- a label that takes the place of a later one
module _ (xs : List (Option StopLabel)) (p : ℕ) (l : StopLabel) (inside : p < length xs) where
  new_label : label_at (set xs p (Some l)) p ≡ Some l
  new_label = get_or-set_same xs p (Some l) None inside

  old_label : (q : ℕ) → q ≢ p → label_at (set xs p (Some l)) q ≡ label_at xs q
  old_label q far = get_or-set_other xs p q (Some l) None far

  set_kept : IsLaterAt xs p l.time → (q : ℕ) (time : ℤ) → IsNoLaterAt xs q time → IsNoLaterAt (set xs p (Some l)) q time
  set_kept later q time h = by_case (cases_eq q p)
    where
      earlier : (o : Option StopLabel) → IfSome o (λ m. l.time <ℤ m.time) → IsSomeAnd o (λ m. m.time ≤ℤ time) → l.time ≤ℤ time
      earlier None g k = absurd k
      earlier (Some m) g k = two l.time m.time time g k
        where
          two : (a b c : ℤ) → a <ℤ b → b ≤ℤ c → a ≤ℤ c
          two a b c g h = omega (arith, ints, g, h)

      by_case : (q ≡ p) ⊎ (q ≢ p) → IsNoLaterAt (set xs p (Some l)) q time
      by_case (inl e) = subst (λ n. IsNoLaterAt (set xs p (Some l)) n time) (sym e)
          (subst (λ o. IsSomeAnd o (λ m. m.time ≤ℤ time)) (sym new_label) (earlier (label_at xs p) later (subst (λ n. IsNoLaterAt xs n time) e h)))
      by_case (inr far) = subst (λ o. IsSomeAnd o (λ m. m.time ≤ℤ time)) (sym (old_label q far)) h

  set_made : (q : ℕ) (m : StopLabel) → label_at (set xs p (Some l)) q ≡ Some m → (label_at xs q ≡ Some m) ⊎ ((q ≡ p) × (m ≡ l))
  set_made q m h = by_case (cases_eq q p)
    where
      by_case : (q ≡ p) ⊎ (q ≢ p) → (label_at xs q ≡ Some m) ⊎ ((q ≡ p) × (m ≡ l))
      by_case (inl e) = let here : Some m ≡ Some l = sym h ∙ ap (λ n. label_at (set xs p (Some l)) n) e ∙ new_label in inr (e, cc)
      by_case (inr far) = inl (sym (old_label q far) ∙ h)

  set_there : (time : ℤ) → time ≡ l.time → IsNoLaterAt (set xs p (Some l)) p time
  set_there time e = subst (λ o. IsSomeAnd o (λ m. m.time ≤ℤ time)) (sym new_label) (≤ℤ-same l.time time (sym e))

module _ (T : TimetableData) where
  -- the offered ridden by another word
  pub TakesRides-as : (a b : StopArrivals) (P Q : PlainRide → Type 0) → ((s : PlainRide) → P s → Q s) → ((s : PlainRide) → Q s → IsNoLaterAt b.labels.items (alighting_stop T (ride_of s)) (alighting_time T (ride_of s))) → TakesRides T a b P → TakesRides T a b Q
  TakesRides-as a b P Q f g t = record {
    long = t.long;
    grown = t.grown;
    ridden = t.ridden;
    unchanged = t.unchanged;
    kept = t.kept;
    made = λ p l h. elim (t.made p l h) [ inl k ↦ inl k | inr k ↦ inr (record { place = k.place; is_place = k.is_place; new = k.new; step = k.step; is_step = k.is_step; offered = f k.step k.offered; stop = k.stop; time = k.time }) ];
    taken = g;
  }

  pub TakesRides-same : (a b : StopArrivals) (P Q : PlainRide → Type 0) → ((s : PlainRide) → P s → Q s) → ((s : PlainRide) → Q s → P s) → TakesRides T a b P → TakesRides T a b Q
  TakesRides-same a b P Q f g t = TakesRides-as a b P Q f (λ s h. t.taken s (g s h)) t

  -- one offer after another
  pub TakesRides-then : (a b c : StopArrivals) (P Q : PlainRide → Type 0) → TakesRides T a b P → TakesRides T b c Q → TakesRides T a c (λ s. P s ⊎ Q s)
  TakesRides-then a b c P Q t u = record {
    long = u.long ∙ t.long;
    grown = omega (arith, t.grown, u.grown);
    ridden = λ n s h. u.ridden n s (t.ridden n s h);
    unchanged = λ e. u.unchanged (omega (arith, e, t.grown, u.grown)) ∙ t.unchanged (omega (arith, e, t.grown, u.grown));
    kept = λ p time h. u.kept p time (t.kept p time h);
    made = λ p l h. by_case p l (u.made p l h);
    taken = λ s h. elim h [ inl k ↦ u.kept (alighting_stop T (ride_of s)) (alighting_time T (ride_of s)) (t.taken s k) | inr k ↦ u.taken s k ];
  }
    where
      by_case : (p : ℕ) (l : StopLabel) → (label_at b.labels.items p ≡ Some l) ⊎ IsLabelOf T c.ridden.items (length b.ridden.items) Q p l →
          (label_at a.labels.items p ≡ Some l) ⊎ IsLabelOf T c.ridden.items (length a.ridden.items) (λ s. P s ⊎ Q s) p l
      by_case p l (inl h) = elim (t.made p l h) [
        | inl k ↦ inl k
        | inr k ↦ inr (record { place = k.place; is_place = k.is_place; new = k.new; step = k.step; is_step = u.ridden k.place k.step k.is_step; offered = inl k.offered; stop = k.stop; time = k.time })
      ]
      by_case p l (inr k) = inr (record { place = k.place; is_place = k.is_place; new = omega (arith, k.new, t.grown); step = k.step; is_step = k.is_step; offered = inr k.offered; stop = k.stop; time = k.time })

  -- one more of some offers that are made in turn, from a number on
  pub TakesRides-more : (a b c : StopArrivals) (P : ℕ → PlainRide → Type 0) (from i : ℕ) → from < i + 1 → TakesRides T a b (λ s. (k : ℕ) × (from < k + 1) × (k < i) × P k s) → TakesRides T b c (P i) → TakesRides T a c (λ s. (k : ℕ) × (from < k + 1) × (k < i + 1) × P k s)
  TakesRides-more a b c P from i start t u =
      TakesRides-same a c (λ s. ((k : ℕ) × (from < k + 1) × (k < i) × P k s) ⊎ P i s) (λ s. (k : ℕ) × (from < k + 1) × (k < i + 1) × P k s)
      (λ s h. elim h [ inl k ↦ (k.0, k.1, omega (arith, k.2), k.3) | inr k ↦ (i, start, omega arith, k) ])
      (λ s h. by_case s h.0 h.1 h.3 (below_or_at h.0 i h.2))
      (TakesRides-then a b c (λ s. (k : ℕ) × (from < k + 1) × (k < i) × P k s) (P i) t u)
    where
      by_case : (s : PlainRide) (k : ℕ) → from < k + 1 → P k s → (k < i) ⊎ (k ≡ i) → ((k : ℕ) × (from < k + 1) × (k < i) × P k s) ⊎ P i s
      by_case s k g h (inl below) = inl (k, g, below, h)
      by_case s k g h (inr e) = inr (subst (λ j. P j s) e h)

  -- a step that arrives sooner than the label of its stop
  pub TakesRides-pushed : (a b : StopArrivals) (s : PlainRide) (l : StopLabel) (p : ℕ) → b.labels.items ≡ set a.labels.items p (Some l) → b.ridden.items ≡ a.ridden.items ++ s ∷ [] → p < length a.labels.items →
      l.ride ≡ Some (length a.ridden.items) → alighting_stop T (ride_of s) ≡ p → alighting_time T (ride_of s) ≡ l.time → IsLaterAt a.labels.items p l.time → MayAlight T s.trip s.alight →
      TakesRides T a b (λ x. (x ≡ s) × MayAlight T s.trip s.alight)
  TakesRides-pushed a b s l p labels ridden inside place stop time later alights = record {
    long = ap length labels ∙ length-set a.labels.items p (Some l);
    grown = omega (arith, more);
    ridden = λ n x h. subst (λ xs. slice_get xs n ≡ Some x) (sym ridden) (slice_get-push a.ridden.items s x n h);
    unchanged = λ e. absurd (omega (arith, e, more));
    kept = λ q t h. subst (λ xs. IsNoLaterAt xs q t) (sym labels) (set_kept a.labels.items p l inside later q t h);
    made = λ q m h. elim (set_made a.labels.items p l inside q m (subst (λ xs. label_at xs q ≡ Some m) labels h)) [
      | inl k ↦ inl k
      | inr k ↦ inr (record {
        place = length a.ridden.items;
        is_place = ap (λ (x : StopLabel). x.ride) k.1 ∙ place;
        new = omega arith;
        step = s;
        is_step = subst (λ xs. slice_get xs (length a.ridden.items) ≡ Some s) (sym ridden) (slice_get-pushed a.ridden.items s);
        offered = (refl, alights);
        stop = stop ∙ sym k.0;
        time = time ∙ sym (ap (λ (x : StopLabel). x.time) k.1);
      })
    ];
    taken = λ x h. subst (λ y. IsNoLaterAt b.labels.items (alighting_stop T (ride_of y)) (alighting_time T (ride_of y))) (sym h.0)
        (subst (λ xs. IsNoLaterAt xs (alighting_stop T (ride_of s)) (alighting_time T (ride_of s))) (sym labels)
        (subst (λ n. IsNoLaterAt (set a.labels.items p (Some l)) n (alighting_time T (ride_of s))) (sym stop) (set_there a.labels.items p l inside (alighting_time T (ride_of s)) time)));
  }
    where
      more : length b.ridden.items ≡ length a.ridden.items + 1
      more = ap length ridden ∙ length_push a.ridden.items s

  module _ (ready : List (Option StopLabel)) (t until : ℕ) (a : StopArrivals) (left : IsLeftBehind T a.labels.items t until) where
    within_or_behind : (m n : ℕ) → (m < n + 1) ⊎ (n < m)
    within_or_behind m n = grind arith

    -- one that is boarded at its first event where it can be
    module _ (b : StopArrivals) (f : FirstBoarding) (takes : TakesRides T a b (IsAlong T t f until)) where
      pub left_from : IsLeftBehind T b.labels.items t f.at
      left_from i behind alights = by_case (within_or_behind i until)
        where
          by_case : (i < until + 1) ⊎ (until < i) → IsNoLaterAt b.labels.items (stop_at T t i) (arrival_at T t i)
          by_case (inl within) = takes.taken (record { trip = t; board = f.at; alight = i; before = f.before }) (i, behind, within, (refl, alights))
          by_case (inr far) = takes.kept (stop_at T t i) (arrival_at T t i) (left i far alights)

      pub first_boarded : NoneBoards ready (events_of T t) f.at → LetsBoard ready (event_at T t f.at) f.before → TakesRides T a b (λ s. (s.trip ≡ t) × IsBoardable T ready s)
      first_boarded none boards = TakesRides-as a b (IsAlong T t f until) (λ s. (s.trip ≡ t) × IsBoardable T ready s) (λ s h. onto s h) (λ s h. back s h.0 h.1) takes
        where
          onto : (s : PlainRide) → IsAlong T t f until s → (s.trip ≡ t) × IsBoardable T ready s
          onto s h = subst (λ x. (x.trip ≡ t) × IsBoardable T ready x) (sym h.3.0) (refl, record { onward = h.1; boards = boards; alights = h.3.1 })

          by_case : (s : PlainRide) → s.trip ≡ t → IsBoardable T ready s → (s.board < f.at) ⊎ (f.at ≤ s.board) → IsNoLaterAt b.labels.items (alighting_stop T (ride_of s)) (alighting_time T (ride_of s))
          by_case s e h (inl early) = absurd (none s.board s.before early (subst (λ u. LetsBoard ready (event_at T u s.board) s.before) e h.boards))
          by_case s e h (inr late) = subst (λ u. IsNoLaterAt b.labels.items (stop_at T u s.alight) (arrival_at T u s.alight)) (sym e) (left_from s.alight (omega (arith, late, h.onward)) (subst (λ u. MayAlight T u s.alight) e h.alights))

          back : (s : PlainRide) → s.trip ≡ t → IsBoardable T ready s → IsNoLaterAt b.labels.items (alighting_stop T (ride_of s)) (alighting_time T (ride_of s))
          back s e h = by_case s e h (cases_lt s.board f.at)

  -- the ridden of one more trip
  pub TakesRides-next : (a b c : StopArrivals) (P : PlainRide → Type 0) (i : ℕ) → TakesRides T a b (λ s. (s.trip < i) × P s) → TakesRides T b c (λ s. (s.trip ≡ i) × P s) → TakesRides T a c (λ s. (s.trip < i + 1) × P s)
  TakesRides-next a b c P i t u =
      TakesRides-same a c (λ s. ((s.trip < i) × P s) ⊎ ((s.trip ≡ i) × P s)) (λ s. (s.trip < i + 1) × P s)
      (λ s h. elim h [ inl k ↦ (omega (arith, k.0), k.1) | inr k ↦ (omega (arith, k.0), k.1) ])
      (λ s h. by_case s h.1 (below_or_at s.trip i h.0))
      (TakesRides-then a b c (λ s. (s.trip < i) × P s) (λ s. (s.trip ≡ i) × P s) t u)
    where
      by_case : (s : PlainRide) → P s → (s.trip < i) ⊎ (s.trip ≡ i) → ((s.trip < i) × P s) ⊎ ((s.trip ≡ i) × P s)
      by_case s h (inl below) = inl (below, h)
      by_case s h (inr e) = inr (e, h)

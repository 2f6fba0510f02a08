-- A hop improves on the alternatives before it where it is sooner at some stop where it ends.
use Rattle.std.proofs.Common.{◌≡◌, ◌≢◌, ◌∙◌, sym, ap, subst, refl, ℕ, ◌+◌, ◌<◌, ◌≤◌, ◌⊎◌, inl, inr, Bool, true, false, ◌||◌, List, [], ◌∷◌, length, ℤ, pos, ◌+ℤ◌, ◌≤ℤ◌, Option, Some, None, arith}
use Rattle.std.specs.Prelude.{All, IsSomeAnd}
use Rattle.std.specs.List.{cons_option, list_any}
use Rattle.std.specs.Option.{option_map}
use Rattle.std.proofs.lemmas.Int.{ints}
use Rattle.std.proofs.lemmas.List.Elements.{All-head, All-tail}
use Rattle.std.proofs.lemmas.Bool.{cases_eq}
use Rattle.tb_base.specs.declared.table.Event.{Event}
use Rattle.tb_base.specs.Soundness.{IsSound}
use Rattle.tb_base.specs.TimetableData.{TimetableData}
use Rattle.tb_base.specs.Transfers.{is_improvement, is_sooner, is_soonest, least, numbers_below}
use Rattle.tb_base.specs.Walking.{change, walk}
use Rattle.tb_base.proofs.Ordered.{Member}
use Rattle.tb_laws.proofs.LabelLaws.{is_soonest-label}
use Rattle.tb_base.proofs.Members.{Member-numbers_below}
use Rattle.tb_laws.proofs.Triangles.{change-change, change-other, walk-other, walk-same, walk-walk}
use Rattle.tb_laws.specs.Labels.{label}
use Rattle.transfer_reduce.proofs.Lesser.{IsTimeOffered, earliest_sooner, label_below, label_offered, not_sooner-some, offer_by, offer_by-walk, some_not_sooner}
use Rattle.tb_base.proofs.Lists.{option_map-back}

plus_zero : (x : ℤ) → (x +ℤ pos 0) ≡ x
plus_zero x = omega (arith, ints)

-- ---- some element passes

pub any-none : {X : Type 0} (test : X → Bool) (xs : List X) → ((x : X) → Member x xs → test x ≡ false) → list_any test xs ≡ false
any-none test [] h = refl
any-none test (x ∷ xs) h = ap (λ b. b || list_any test xs) (h x (inl refl)) ∙ any-none test xs (λ y m. h y (inr m))

pub any-some : {X : Type 0} (test : X → Bool) (xs : List X) (x : X) → Member x xs → test x ≡ true → list_any test xs ≡ true
any-some test [] x m h = absurd m
any-some test (y ∷ ys) x (inl e) h = ap (λ b. b || list_any test ys) (ap test e ∙ h)
any-some test (y ∷ ys) x (inr m) h = ap (λ b. test y || b) (any-some test ys x m h) ∙ or_true (test y)
  where
    or_true : (b : Bool) → (b || true) ≡ true
    or_true true = refl
    or_true false = refl

any-member : {X : Type 0} (test : X → Bool) (xs : List X) → list_any test xs ≡ true → (x : X) × Member x xs × (test x ≡ true)
any-member test [] h = cc
any-member {X} test (y ∷ ys) h = by_test (λ k. any-member test ys k) (test y) refl h
  where
    by_test : (list_any test ys ≡ true → (x : X) × Member x ys × (test x ≡ true)) → (b : Bool) → b ≡ test y → (b || list_any test ys) ≡ true → (x : X) × Member x (y ∷ ys) × (test x ≡ true)
    by_test more true e k = (y, inl refl, sym e)
    by_test more false e k = let r = more k in (r.0, inr r.1, r.2)

none-member : {X : Type 0} (test : X → Bool) (xs : List X) → list_any test xs ≡ false → (x : X) → Member x xs → test x ≡ false
none-member test [] h x m = absurd m
none-member test (y ∷ ys) h x m = by_test (λ k l. none-member test ys k x l) (test y) refl h m
  where
    by_test : (list_any test ys ≡ false → Member x ys → test x ≡ false) → (b : Bool) → b ≡ test y → (b || list_any test ys) ≡ false → Member x (y ∷ ys) → test x ≡ false
    by_test more true e k m = cc
    by_test more false e k (inl is) = ap test (sym is) ∙ sym e
    by_test more false e k (inr l) = more k l

-- ---- one number for each stop is enough

module _ (T : TimetableData) (sound : IsSound T) where
  -- what comes after a walk takes no longer than both in a row
  abbrev FollowsWalks : (ℕ → ℕ → Option ℕ) → Type 0
  FollowsWalks secs_to = (p q r s t : ℕ) → walk T p q ≡ Some s → secs_to q r ≡ Some t → IsSomeAnd (secs_to p r) (λ u. u ≤ s + t)

  walk_follows : FollowsWalks (walk T)
  walk_follows = walk-walk T sound.law

  change_follows : FollowsWalks (change T)
  change_follows p q r s t g h = by_case (cases_eq p q)
    where
      by_case : (p ≡ q) ⊎ (p ≢ q) → IsSomeAnd (change T p r) (λ u. u ≤ s + t)
      by_case (inl e) = subst (λ o. IsSomeAnd o (λ u. u ≤ s + t)) (sym (ap (λ x. change T x r) e ∙ h)) (let l : t ≤ s + t = omega arith in l)
      by_case (inr d) = change-change T sound.law p q r s t (change-other T p q d ∙ (sym (walk-other T p q d) ∙ g)) h

  -- an event that is no sooner at its own stop is no sooner anywhere
  not_sooner : (secs_to : ℕ → ℕ → Option ℕ) → FollowsWalks secs_to → (ess : List (List Event)) (e : Event) → is_sooner (Some e.arr) (label (walk T) ess e.stop) ≡ false → (p : ℕ) →
      is_sooner (offer_by secs_to e p) (label secs_to ess p) ≡ false
  not_sooner secs_to follows ess e h p = by_secs (secs_to e.stop p) refl (label (walk T) ess e.stop) refl (not_sooner-some e.arr (label (walk T) ess e.stop) h)
    where
      in_time : (a y x : ℤ) (n t u : ℕ) → (a +ℤ pos n) ≡ y → y ≤ℤ x → u ≤ n + t → (a +ℤ pos u) ≤ℤ (x +ℤ pos t)
      in_time a y x n t u g h k = omega (arith, ints, g, h, k)

      offered_in : (a x : ℤ) (o : Option ℕ) (n t : ℕ) (y : ℤ) → (a +ℤ pos n) ≡ y → y ≤ℤ x → IsSomeAnd o (λ u. u ≤ n + t) → IsSomeAnd (least (cons_option (option_map (λ secs. a +ℤ pos secs) o) [])) (λ z. z ≤ℤ (x +ℤ pos t))
      offered_in a x None n t y g h k = k
      offered_in a x (Some u) n t y g h k = in_time a y x n t u g h k

      by_secs : (o : Option ℕ) → o ≡ secs_to e.stop p → (b : Option ℤ) → b ≡ label (walk T) ess e.stop → IsSomeAnd b (λ y. y ≤ℤ e.arr) → is_sooner (least (cons_option (option_map (λ secs. e.arr +ℤ pos secs) o) [])) (label secs_to ess p) ≡ false
      by_secs None w b k below = refl
      by_secs (Some t) w None k below = absurd below
      by_secs (Some t) w (Some y) k below =
          let r : IsTimeOffered (walk T) ess e.stop y = label_offered (walk T) ess e.stop y (sym k) in
          let way = option_map-back (λ n. r.event.arr +ℤ pos n) (walk T r.event.stop e.stop) y (sym (offer_by-walk T r.event e.stop) ∙ r.offer) in
          some_not_sooner (e.arr +ℤ pos t) (label secs_to ess p)
          (label_below secs_to ess p r.events r.event (e.arr +ℤ pos t) r.among r.member
          (offered_in r.event.arr e.arr (secs_to r.event.stop p) way.0 t y way.2 below (follows r.event.stop e.stop p way.0 t way.1 (sym w))))

  soonest_none : (secs_to : ℕ → ℕ → Option ℕ) → FollowsWalks secs_to → (es : List Event) (ess : List (List Event)) (events : List Event) → list_any (λ e. is_sooner (Some e.arr) (label (walk T) (es ∷ ess) e.stop)) events ≡ false → (p : ℕ) →
      is_soonest secs_to (es ∷ ess) events p ≡ false
  soonest_none secs_to follows es ess events none p =
      is_soonest-label secs_to es ess events p ∙ earliest_sooner secs_to events p (label secs_to (es ∷ ess) p)
      ∙ any-none (λ e. is_sooner (offer_by secs_to e p) (label secs_to (es ∷ ess) p)) events
      (λ e m. not_sooner secs_to follows (es ∷ ess) e (none-member (λ e. is_sooner (Some e.arr) (label (walk T) (es ∷ ess) e.stop)) events none e m) p)

  -- the events of some alternative are at a stop sooner than a label
  pub improves_is : (es : List Event) (ess : List (List Event)) (events : List Event) → All (λ e. e.stop < length T.stops) events →
      is_improvement T (es ∷ ess) events ≡ list_any (λ e. is_sooner (Some e.arr) (label (walk T) (es ∷ ess) e.stop)) events
  improves_is es ess events inside =
      by_test (list_any (λ e. is_sooner (Some e.arr) (label (walk T) (es ∷ ess) e.stop)) events) refl
    where
      member_inside : (xs : List Event) → All (λ e. e.stop < length T.stops) xs → (e : Event) → Member e xs → e.stop < length T.stops
      member_inside [] all e m = absurd m
      member_inside (x ∷ xs) all e (inl is) = subst (λ (f : Event). f.stop < length T.stops) is (All-head (λ (f : Event). f.stop < length T.stops) x xs all)
      member_inside (x ∷ xs) all e (inr m) = member_inside xs (All-tail (λ (f : Event). f.stop < length T.stops) x xs all) e m

      by_test : (b : Bool) → b ≡ list_any (λ e. is_sooner (Some e.arr) (label (walk T) (es ∷ ess) e.stop)) events → is_improvement T (es ∷ ess) events ≡ b
      by_test false e =
          any-none (λ p. is_soonest (walk T) (es ∷ ess) events p || is_soonest (change T) (es ∷ ess) events p) (numbers_below (length T.stops))
          (λ p m. (λ i. soonest_none (walk T) walk_follows es ess events (sym e) p i || soonest_none (change T) change_follows es ess events (sym e) p i))
      by_test true e =
          let found = any-member (λ e. is_sooner (Some e.arr) (label (walk T) (es ∷ ess) e.stop)) events (sym e) in
          let event : Event = found.0 in
          let p : ℕ = event.stop in
          let own : offer_by (walk T) found.0 (found.0).stop ≡ Some (found.0).arr =
          offer_by-walk T event p ∙ ap (option_map (λ secs. event.arr +ℤ pos secs)) (walk-same T p) ∙ ap (λ x. Some x) (plus_zero event.arr) in
          let here : is_sooner (offer_by (walk T) found.0 (found.0).stop) (label (walk T) (es ∷ ess) (found.0).stop) ≡ true = ap (λ o. is_sooner o (label (walk T) (es ∷ ess) p)) own ∙ found.2 in
          let soonest : is_soonest (walk T) (es ∷ ess) events (found.0).stop ≡ true =
          is_soonest-label (walk T) es ess events p ∙ earliest_sooner (walk T) events p (label (walk T) (es ∷ ess) p)
          ∙ any-some (λ e. is_sooner (offer_by (walk T) e p) (label (walk T) (es ∷ ess) p)) events event found.1 here in
          any-some (λ p. is_soonest (walk T) (es ∷ ess) events p || is_soonest (change T) (es ∷ ess) events p) (numbers_below (length T.stops)) p
          (Member-numbers_below p (length T.stops) (member_inside events inside event found.1)) (ap (λ b. b || is_soonest (change T) (es ∷ ess) events p) soonest)

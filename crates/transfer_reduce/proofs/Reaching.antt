-- Where one is by when, and how that grows.
use Rattle.std.proofs.Common.{◌≡◌, ◌∙◌, sym, ap, subst, refl, ℕ, ◌+◌, ◌-◌, ◌<◌, ◌≤◌, ◌⊎◌, inl, inr, Bool, true, false, List, [], ◌∷◌, length, get_or, drop, replicate, ℤ, pos, ◌+ℤ◌, ◌≤ℤ◌, Option, Some, None, arith}
use Rattle.std.specs.Prelude.{All, Contains, IsSomeAnd, nat_lt}
use Rattle.std.specs.List.{list_any}
use Rattle.std.specs.Option.{option_map}
use Rattle.std.proofs.lemmas.Bool.{cases_lt}
use Rattle.std.proofs.lemmas.Bool.Decides.{nat_tests}
use Rattle.std.proofs.lemmas.Int.{ints}
use Rattle.std.proofs.lemmas.List.{get_or-drop, get_or_default, get_or_past, length-drop}
use Rattle.std.proofs.lemmas.List.Elements.{All-nil, All-replicate}
use Rattle.tb_base.specs.declared.table.Event.{Event}
use Rattle.tb_base.specs.declared.transfer.Transfer.{Transfer}
use Rattle.tb_base.specs.Soundness.{IsSound, IsSoundTrip}
use Rattle.tb_base.specs.TimetableData.{TripData, TimetableData, event_at, events_of, no_event, no_trip}
use Rattle.tb_base.specs.Transfers.{earliest_offer, is_sooner}
use Rattle.tb_base.specs.Walking.{walk}
use Rattle.tb_base.proofs.Lists.{option_map-back}
use Rattle.tb_base.proofs.Members.{Member-filter, Member-filter_back}
use Rattle.tb_base.proofs.NumberFacts.{≤ℤ-refl}
use Rattle.tb_base.proofs.Ordered.{Contains-from_Member, Member, Member-from_Contains}
use Rattle.tb_laws.proofs.Triangles.{walk-same, walk-walk}
use Rattle.tb_laws.specs.Labels.{label}
use Rattle.transfer_reduce.specs.declared.tried.Tried.{Tried}
use Rattle.transfer_reduce.specs.Reached.{AreLowered, AreReached, AreShown, IsAlighting, IsBy, IsReachedOnFoot, hop_alightings}
use Rattle.transfer_reduce.specs.Tried.{AreTried, IsTried}
use Rattle.transfer_reduce.proofs.Improvement.{any-none, any-some}
use Rattle.transfer_reduce.proofs.Lesser.{earliest_below, earliest_is, lesser-below_left, lesser-below_right, lesser-by, not_sooner-some, offer_by, offer_by-walk, some_not_sooner}

pub stops_inside : (T : TimetableData) → IsSound T → (t : ℕ) → All (λ e. e.stop < length T.stops) (events_of T t)
stops_inside T sound t = by_case (cases_lt t (length T.trips))
  where
    by_case : (t < length T.trips) ⊎ (length T.trips ≤ t) → All (λ e. e.stop < length T.stops) (events_of T t)
    by_case (inl h) = λ k d below. (IsSoundTrip.events (sound.trip t no_trip h) k d below).stop
    by_case (inr h) = subst (λ (trip : TripData). All (λ e. e.stop < length T.stops) trip.events) (sym (get_or_past T.trips t no_trip h)) (All-nil (λ (e : Event). e.stop < length T.stops))

-- ---- by a time, on foot

-- one is at a stop where one arrives there
pub reached_there : (T : TimetableData) (times : List (Option ℤ)) (p : ℕ) (time : ℤ) → IsBy times p time → IsReachedOnFoot T times p time
reached_there T times p time h = by_option (get_or times p None) refl h
  where
    by_option : (o : Option ℤ) → o ≡ get_or times p None → IsSomeAnd o (λ t. t ≤ℤ time) → IsReachedOnFoot T times p time
    by_option None e k = absurd k
    by_option (Some t) e k = record { from = p; since = t; secs = 0; there = sym e; way = walk-same T p; in_time = omega (arith, ints, k) }

-- earlier arrivals lose nothing
pub reached_kept : (T : TimetableData) (old new : List (Option ℤ)) → ((p : ℕ) (x : ℤ) → IsBy old p x → IsBy new p x) → (p : ℕ) (time : ℤ) → IsReachedOnFoot T old p time → IsReachedOnFoot T new p time
reached_kept T old new kept p time r = by_option (get_or new r.from None) refl (kept r.from r.since (subst (λ o. IsSomeAnd o (λ t. t ≤ℤ r.since)) (sym r.there) (≤ℤ-refl r.since)))
  where
    earlier : (t since time : ℤ) (secs : ℕ) → t ≤ℤ since → (since +ℤ pos secs) ≤ℤ time → (t +ℤ pos secs) ≤ℤ time
    earlier t since time secs h k = omega (arith, ints, h, k)

    by_option : (o : Option ℤ) → o ≡ get_or new r.from None → IsSomeAnd o (λ t. t ≤ℤ r.since) → IsReachedOnFoot T new p time
    by_option None e k = absurd k
    by_option (Some t) e k = record { from = r.from; since = t; secs = r.secs; there = sym e; way = r.way; in_time = earlier t r.since time r.secs k r.in_time }

-- walks in a row are no faster than one
pub reached_on_foot : (T : TimetableData) → IsSound T → (times : List (Option ℤ)) (p q secs : ℕ) (time x : ℤ) → IsReachedOnFoot T times p time → walk T p q ≡ Some secs → (time +ℤ pos secs) ≤ℤ x → IsReachedOnFoot T times q x
reached_on_foot T sound times p q secs time x r way h = by_option (walk T r.from q) refl (walk-walk T sound.law r.from p q r.secs secs r.way way)
  where
    sums : (since time x : ℤ) (a b u : ℕ) → (since +ℤ pos a) ≤ℤ time → (time +ℤ pos b) ≤ℤ x → u ≤ a + b → (since +ℤ pos u) ≤ℤ x
    sums since time x a b u h k l = omega (arith, ints, h, k, l)

    by_option : (o : Option ℕ) → o ≡ walk T r.from q → IsSomeAnd o (λ u. u ≤ r.secs + secs) → IsReachedOnFoot T times q x
    by_option None e k = absurd k
    by_option (Some u) e k = record { from = r.from; since = r.since; secs = u; there = r.there; way = sym e; in_time = sums r.since time x r.secs secs u r.in_time h k }

-- without any arrival one is nowhere
pub nowhere : (T : TimetableData) (times : List (Option ℤ)) → ((p : ℕ) → get_or times p None ≡ None) → (p : ℕ) (time : ℤ) → IsReachedOnFoot T times p time → ⊥
nowhere T times none p time r = clash (get_or times r.from None) r.since (none r.from) r.there
  where
    clash : (o : Option ℤ) (time : ℤ) → o ≡ None → o ≡ Some time → ⊥
    clash o time g h = cc

-- ---- one alternative more

module _ (T : TimetableData) (sound : IsSound T) (es : List Event) (old new : List (Option ℤ))
    (each : (e : Event) → Member e es → IsReachedOnFoot T new e.stop e.arr)
    (from : (p : ℕ) (x : ℤ) → IsBy new p x → IsBy old p x ⊎ ((e : Event) × Member e es × (e.stop ≡ p) × (e.arr ≤ℤ x)))
    (kept : (p : ℕ) (x : ℤ) → IsBy old p x → IsBy new p x) where
  pub shown_more : (earlier : List (List Event)) → AreShown T old earlier → AreShown T new (es ∷ earlier)
  shown_more earlier shown p time below = (forth, back)
    where
      sum : (a since time : ℤ) (secs : ℕ) → a ≤ℤ since → (since +ℤ pos secs) ≤ℤ time → (a +ℤ pos secs) ≤ℤ time
      sum a since time secs h k = omega (arith, ints, h, k)

      forth : IsReachedOnFoot T new p time → IsSomeAnd (label (walk T) (es ∷ earlier) p) (λ y. y ≤ℤ time)
      forth r = by_case (from r.from r.since (subst (λ o. IsSomeAnd o (λ t. t ≤ℤ r.since)) (sym r.there) (≤ℤ-refl r.since)))
        where
          by_case : IsBy old r.from r.since ⊎ ((e : Event) × Member e es × (e.stop ≡ r.from) × (e.arr ≤ℤ r.since)) → IsSomeAnd (label (walk T) (es ∷ earlier) p) (λ y. y ≤ℤ time)
          by_case (inl h) =
              lesser-below_right (earliest_offer (walk T) es p) (label (walk T) earlier p) time
              ((shown p time below).0 (reached_on_foot T sound old r.from p r.secs r.since time (reached_there T old r.from r.since h) r.way r.in_time))
          by_case (inr h) =
              let e : Event = h.0 in
              let offer : offer_by (walk T) h.0 p ≡ Some ((h.0).arr +ℤ pos r.secs) = offer_by-walk T e p ∙ ap (option_map (λ secs. e.arr +ℤ pos secs)) (ap (λ s. walk T s p) h.2 ∙ r.way) in
              lesser-below_left (earliest_offer (walk T) es p) (label (walk T) earlier p) time
              (earliest_below (walk T) es p e time h.1 (subst (λ o. IsSomeAnd o (λ y. y ≤ℤ time)) (sym offer) (sum e.arr r.since time r.secs h.3 r.in_time)))

      back : IsSomeAnd (label (walk T) (es ∷ earlier) p) (λ y. y ≤ℤ time) → IsReachedOnFoot T new p time
      back h = by_case (lesser-by (earliest_offer (walk T) es p) (label (walk T) earlier p) time h)
        where
          by_option : (o : Option ℤ) → o ≡ earliest_offer (walk T) es p → IsSomeAnd o (λ y. y ≤ℤ time) → IsReachedOnFoot T new p time
          by_option None e k = absurd k
          by_option (Some y) e k =
              let r : (e : Event) × Member e es × (offer_by (walk T) e p ≡ Some y) = earliest_is (walk T) es p y (sym e) in
              let f : Event = r.0 in
              let way = option_map-back (λ secs. f.arr +ℤ pos secs) (walk T f.stop p) y (sym (offer_by-walk T f p) ∙ r.2) in
              reached_on_foot T sound new f.stop p way.0 f.arr time (each f r.1) way.1 (subst (λ z. z ≤ℤ time) (sym way.2) k)

          by_case : IsSomeAnd (earliest_offer (walk T) es p) (λ y. y ≤ℤ time) ⊎ IsSomeAnd (label (walk T) earlier p) (λ y. y ≤ℤ time) → IsReachedOnFoot T new p time
          by_case (inl k) = by_option (earliest_offer (walk T) es p) refl k
          by_case (inr k) = reached_kept T old new kept p time ((shown p time below).1 k)

-- ---- the events behind a hop

hop_member : (T : TimetableData) (r : Transfer) (e : Event) → Member e (hop_alightings T r) → (i : ℕ) × (r.to_at + 1 ≤ i) × (i < length (events_of T r.to_trip)) × (event_at T r.to_trip i ≡ e) × ((event_at T r.to_trip i).alight ≡ true)
hop_member T r e m =
    let parts = Member-filter_back (λ (f : Event). f.alight) e (drop (r.to_at + 1) (events_of T r.to_trip)) m in
    let c : Contains (drop (r.to_at + 1) (events_of T r.to_trip)) e = Contains-from_Member e (drop (r.to_at + 1) (events_of T r.to_trip)) parts.0 in
    let long = length-drop (r.to_at + 1) (events_of T r.to_trip) in
    let inside : r.to_at + 1 + c.0 < length (events_of T r.to_trip) = omega (arith, c.1, long) in
    let first : r.to_at + 1 ≤ r.to_at + 1 + c.0 = omega arith in
    let same : event_at T r.to_trip (r.to_at + 1 + c.0) ≡ e =
    get_or_default (events_of T r.to_trip) (r.to_at + 1 + c.0) no_event e inside ∙ sym (get_or-drop (r.to_at + 1) (events_of T r.to_trip) c.0 e) ∙ c.2 in
    (r.to_at + 1 + c.0, first, inside, same, ap (λ (f : Event). f.alight) same ∙ parts.1)

member_hop : (T : TimetableData) (r : Transfer) (i : ℕ) → r.to_at + 1 ≤ i → i < length (events_of T r.to_trip) → (event_at T r.to_trip i).alight ≡ true → Member (event_at T r.to_trip i) (hop_alightings T r)
member_hop T r i first inside alights =
    let e : Event = event_at T r.to_trip i in
    let events = events_of T r.to_trip in
    let long = length-drop (r.to_at + 1) (events_of T r.to_trip) in
    let below : i - (r.to_at + 1) < length (drop (r.to_at + 1) (events_of T r.to_trip)) = omega (arith, first, inside, long) in
    let place : r.to_at + 1 + (i - (r.to_at + 1)) ≡ i = omega (arith, first) in
    let same : get_or (drop (r.to_at + 1) (events_of T r.to_trip)) (i - (r.to_at + 1)) (event_at T r.to_trip i) ≡ event_at T r.to_trip i =
    get_or-drop (r.to_at + 1) events (i - (r.to_at + 1)) e ∙ ap (λ n. get_or events n e) place ∙ get_or_default events i e no_event inside in
    Member-filter (λ (f : Event). f.alight) e (drop (r.to_at + 1) events) (Member-from_Contains e (drop (r.to_at + 1) events) (i - (r.to_at + 1), below, same)) alights

-- ---- a hop

module _ (T : TimetableData) (sound : IsSound T) (r : Transfer) (old new : List (Option ℤ)) (first end : ℕ) (within : first ≤ end) (inside : end ≤ length (events_of T r.to_trip))
    (rest : AreReached T old r.to_trip end (length (events_of T r.to_trip))) (late : AreReached T old r.to_trip (r.to_at + 1) first) (after : first < end → r.to_at + 1 ≤ first)
    (lowered : AreLowered T r.to_trip first end old new) where
  hop_kept : (p : ℕ) (x : ℤ) → IsBy old p x → IsBy new p x
  hop_kept p x h = (lowered p x).1 (inl h)

  -- behind it one is everywhere by then
  pub hop_reached : AreReached T new r.to_trip (r.to_at + 1) (length (events_of T r.to_trip))
  hop_reached i begin below alights = by_case (cases_lt i first) (cases_lt i end)
    where
      by_case : (i < first) ⊎ (first ≤ i) → (i < end) ⊎ (end ≤ i) → IsReachedOnFoot T new (event_at T r.to_trip i).stop (event_at T r.to_trip i).arr
      by_case (inl h) k = reached_kept T old new hop_kept (event_at T r.to_trip i).stop (event_at T r.to_trip i).arr (late i begin h alights)
      by_case (inr h) (inl k) =
          reached_there T new (event_at T r.to_trip i).stop (event_at T r.to_trip i).arr
          ((lowered (event_at T r.to_trip i).stop (event_at T r.to_trip i).arr).1 (inr (record { at = i; first = h; last = k; alights = alights; stop = refl; by = ≤ℤ-refl (event_at T r.to_trip i).arr })))
      by_case (inr h) (inr k) = reached_kept T old new hop_kept (event_at T r.to_trip i).stop (event_at T r.to_trip i).arr (rest i k below alights)

  hop_each : (e : Event) → Member e (hop_alightings T r) → IsReachedOnFoot T new e.stop e.arr
  hop_each e m =
      let k = hop_member T r e m in
      subst (λ (f : Event). IsReachedOnFoot T new f.stop f.arr) k.3 (hop_reached k.0 k.1 k.2 k.4)

  hop_from : (p : ℕ) (x : ℤ) → IsBy new p x → IsBy old p x ⊎ ((e : Event) × Member e (hop_alightings T r) × (e.stop ≡ p) × (e.arr ≤ℤ x))
  hop_from p x h = by_case ((lowered p x).0 h)
    where
      by_case : IsBy old p x ⊎ IsAlighting T r.to_trip first end p x → IsBy old p x ⊎ ((e : Event) × Member e (hop_alightings T r) × (e.stop ≡ p) × (e.arr ≤ℤ x))
      by_case (inl k) = inl k
      by_case (inr k) =
          let some : first < end = omega (arith, k.first, k.last) in
          let begin : r.to_at + 1 ≤ k.at = omega (arith, after some, k.first) in
          let below : k.at < length (events_of T r.to_trip) = omega (arith, k.last, inside) in
          inr (event_at T r.to_trip k.at, member_hop T r k.at begin below k.alights, k.stop, k.by)

  pub hop_shown : (earlier : List (List Event)) → AreShown T old earlier → AreShown T new (hop_alightings T r ∷ earlier)
  hop_shown = shown_more T sound (hop_alightings T r) old new hop_each hop_from hop_kept

  abbrev sooner_than : List (List Event) → Event → Bool
  sooner_than earlier e = is_sooner (Some e.arr) (label (walk T) earlier e.stop)

  -- where there is no first event none is sooner
  none_sooner : (earlier : List (List Event)) → AreShown T old earlier → end ≤ first → list_any (λ e. is_sooner (Some e.arr) (label (walk T) earlier e.stop)) (hop_alightings T r) ≡ false
  none_sooner earlier shown all = any-none (sooner_than earlier) (hop_alightings T r) (λ e m.
      let k = hop_member T r e m in
      let at = k.0 in
      subst (λ (f : Event). is_sooner (Some f.arr) (label (walk T) earlier f.stop) ≡ false) k.3
      (some_not_sooner (event_at T r.to_trip at).arr (label (walk T) earlier (event_at T r.to_trip at).stop)
      ((shown (event_at T r.to_trip at).stop (event_at T r.to_trip at).arr (stops_inside T sound r.to_trip at no_event k.2)).0 (by_place k.0 k.1 k.2 k.4 (cases_lt k.0 first)))))
    where
      by_place : (i : ℕ) → r.to_at + 1 ≤ i → i < length (events_of T r.to_trip) → (event_at T r.to_trip i).alight ≡ true → (i < first) ⊎ (first ≤ i) → IsReachedOnFoot T old (event_at T r.to_trip i).stop (event_at T r.to_trip i).arr
      by_place i begin below alights (inl h) = late i begin h alights
      by_place i begin below alights (inr h) = rest i (omega (arith, all, h)) below alights

  -- else the first is
  first_sooner : (earlier : List (List Event)) → AreShown T old earlier → first < end → (event_at T r.to_trip first).alight ≡ true → (IsReachedOnFoot T old (event_at T r.to_trip first).stop (event_at T r.to_trip first).arr → ⊥)
      → list_any (λ e. is_sooner (Some e.arr) (label (walk T) earlier e.stop)) (hop_alightings T r) ≡ true
  first_sooner earlier shown some alights away =
      let below : first < length (events_of T r.to_trip) = omega (arith, some, inside) in
      any-some (sooner_than earlier) (hop_alightings T r) (event_at T r.to_trip first) (member_hop T r first (after some) below alights)
      (by_test (is_sooner (Some (event_at T r.to_trip first).arr) (label (walk T) earlier (event_at T r.to_trip first).stop)) refl below)
    where
      by_test : (b : Bool) → b ≡ is_sooner (Some (event_at T r.to_trip first).arr) (label (walk T) earlier (event_at T r.to_trip first).stop) → first < length (events_of T r.to_trip) → is_sooner (Some (event_at T r.to_trip first).arr) (label (walk T) earlier (event_at T r.to_trip first).stop) ≡ true
      by_test true e below = sym e
      by_test false e below =
          absurd (away ((shown (event_at T r.to_trip first).stop (event_at T r.to_trip first).arr (stops_inside T sound r.to_trip first no_event below)).1
          (not_sooner-some (event_at T r.to_trip first).arr (label (walk T) earlier (event_at T r.to_trip first).stop) (sym e))))

  -- so there is one exactly where the index comes before the end
  pub hop_sooner : (first < end → (event_at T r.to_trip first).alight ≡ true) → (first < end → IsReachedOnFoot T old (event_at T r.to_trip first).stop (event_at T r.to_trip first).arr → ⊥)
      → (earlier : List (List Event)) → AreShown T old earlier → nat_lt first end ≡ list_any (λ e. is_sooner (Some e.arr) (label (walk T) earlier e.stop)) (hop_alightings T r)
  hop_sooner alights away earlier shown = by_case (cases_lt first end)
    where
      before : first < end → nat_lt first end ≡ true
      before h = grind (arith, nat_tests, h)

      past : end ≤ first → nat_lt first end ≡ false
      past h = grind (arith, nat_tests, h)

      by_case : (first < end) ⊎ (end ≤ first) → nat_lt first end ≡ list_any (λ e. is_sooner (Some e.arr) (label (walk T) earlier e.stop)) (hop_alightings T r)
      by_case (inl h) = before h ∙ sym (first_sooner earlier shown h (alights h) (away h))
      by_case (inr h) = past h ∙ sym (none_sooner earlier shown h)

-- ---- staying

module _ (T : TimetableData) (sound : IsSound T) (t i : ℕ) (old new : List (Option ℤ)) (earlier : List (List Event)) (lowered : AreLowered T t i (i + 1) old new) where
  stay_kept : (p : ℕ) (x : ℤ) → IsBy old p x → IsBy new p x
  stay_kept p x h = (lowered p x).1 (inl h)

  at_it : (p : ℕ) (x : ℤ) → (a : IsAlighting T t i (i + 1) p x) → a.at ≡ i
  at_it p x a = omega (arith, a.first, a.last)

  pub stay_shown : (event_at T t i).alight ≡ true → AreShown T old earlier → AreShown T new ((event_at T t i ∷ []) ∷ earlier)
  stay_shown alights = shown_more T sound (event_at T t i ∷ []) old new each from stay_kept earlier
    where
      each : (e : Event) → Member e (event_at T t i ∷ []) → IsReachedOnFoot T new e.stop e.arr
      each e (inl is) =
          subst (λ (f : Event). IsReachedOnFoot T new f.stop f.arr) is
          (reached_there T new (event_at T t i).stop (event_at T t i).arr
          ((lowered (event_at T t i).stop (event_at T t i).arr).1 (inr (record { at = i; first = omega arith; last = omega arith; alights = alights; stop = refl; by = ≤ℤ-refl (event_at T t i).arr }))))
      each e (inr none) = absurd none

      from : (p : ℕ) (x : ℤ) → IsBy new p x → IsBy old p x ⊎ ((e : Event) × Member e (event_at T t i ∷ []) × (e.stop ≡ p) × (e.arr ≤ℤ x))
      from p x h = by_case ((lowered p x).0 h)
        where
          by_case : IsBy old p x ⊎ IsAlighting T t i (i + 1) p x → IsBy old p x ⊎ ((e : Event) × Member e (event_at T t i ∷ []) × (e.stop ≡ p) × (e.arr ≤ℤ x))
          by_case (inl k) = inl k
          by_case (inr k) = inr (event_at T t k.at, inl (ap (event_at T t) (sym (at_it p x k))), k.stop, k.by)

  -- where one may not alight nothing changes
  pub stay_not_shown : (event_at T t i).alight ≡ false → AreShown T old earlier → AreShown T new earlier
  stay_not_shown mark shown p time below = (λ r. (shown p time below).0 (reached_kept T new old back p time r), λ h. reached_kept T old new stay_kept p time ((shown p time below).1 h))
    where
      clash : (b : Bool) → b ≡ true → b ≡ false → ⊥
      clash b g h = cc

      back : (p : ℕ) (x : ℤ) → IsBy new p x → IsBy old p x
      back p x h = by_case ((lowered p x).0 h)
        where
          by_case : IsBy old p x ⊎ IsAlighting T t i (i + 1) p x → IsBy old p x
          by_case (inl k) = k
          by_case (inr k) = absurd (clash (event_at T t i).alight (subst (λ n. (event_at T t n).alight ≡ true) (at_it p x k) k.alights) mark)

-- ---- tried trips

pub tried_kept : (T : TimetableData) (old new : List (Option ℤ)) → ((p : ℕ) (x : ℤ) → IsBy old p x → IsBy new p x) → (xs : List Tried) → AreTried T old xs → AreTried T new xs
tried_kept T old new kept xs are k d h = λ i from below alights.
    reached_kept T old new kept (event_at T (get_or xs k d).trip i).stop (event_at T (get_or xs k d).trip i).arr (are k d h i from below alights)

none_tried : (T : TimetableData) → IsSound T → (times : List (Option ℤ)) (n : ℕ) → 500000 ≤ n → IsTried T times (record { trip = n; at = 0 })
none_tried T sound times n h i from below alights =
    let past : length T.trips ≤ n = omega (arith, h, sound.trips) in
    let none : length (events_of T n) ≡ 0 = ap (λ (t : TripData). length t.events) (get_or_past T.trips n no_trip past) in
    absurd (omega (arith, below, none))

pub none_tried_yet : (T : TimetableData) → IsSound T → (times : List (Option ℤ)) (n m : ℕ) → 500000 ≤ n → AreTried T times (replicate m (record { trip = n; at = 0 }))
none_tried_yet T sound times n m h = All-replicate (IsTried T times) m (record { trip = n; at = 0 }) (none_tried T sound times n h)

-- staying only adds to where one is
pub stay_tried : (T : TimetableData) (t i : ℕ) (old new : List (Option ℤ)) → (i ≡ 0 → new ≡ old) → (0 < i → AreLowered T t i (i + 1) old new) → (xs : List Tried) → AreTried T old xs → AreTried T new xs
stay_tried T t i old new none lowered xs are = by_place (cases_lt 0 i)
  where
    by_place : (0 < i) ⊎ (i ≤ 0) → AreTried T new xs
    by_place (inl h) = tried_kept T old new (λ p x k. (lowered h p x).1 (inl k)) xs are
    by_place (inr h) = subst (λ ts. AreTried T ts xs) (sym (none (omega (arith, h)))) are

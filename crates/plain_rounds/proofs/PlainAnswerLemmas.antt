-- The best values so far, with one more round.
use Rattle.std.proofs.Common.{◌≡◌, ℕ, suc, ◌<◌, ◌≤◌, ◌+◌, ◌⊎◌, inl, inr, List, [], ◌∷◌, ◌++◌, length, get_or, refl, sym, ap, subst, ◌∙◌, arith, Option, None, Some, map, reverse, replicate, ℤ, pos, ◌+ℤ◌, ◌≤ℤ◌, ◌<ℤ◌}
use Rattle.std.specs.Prelude.{All, AllPairs, sum, Contains, IfSome, IsSome, IsSomeAnd, unwrap_or}
use Rattle.std.proofs.lemmas.Int.{ints}
use Rattle.std.proofs.lemmas.List.{map_push, get_or-map, get_or_default, length-map, length-append}
use Rattle.std.proofs.lemmas.List.Elements.{All-push, All-cons, All-contains, All-map, Contains-push, Contains-push_cases}
use Rattle.std.proofs.lemmas.List.Quantifiers.{all_pairs_push}
use Rattle.tb_base.specs.declared.query.Leg.{Leg}
use Rattle.tb_base.specs.declared.query.Value.{Value}
use Rattle.tb_base.specs.TimetableData.{TimetableData, no_event, event_at, stop_at, no_trip}
use Rattle.tb_base.specs.Soundness.{IsSound, IsSoundEvent}
use Rattle.tb_base.specs.Walking.{walk}
use Rattle.tb_base.specs.Journeys.{Ride, walk_secs, alighting_stop, alighting_time}
use Rattle.tb_base.specs.BestValues.{QueryData, ChoiceData, IsAttained, IsNoWorse, IsBest, IsStep, AreBestValues}
use Rattle.tb_base.specs.JourneyRules.{SpellValue, legs_of}
use Rattle.tb_base.proofs.Events.{MayAlight-inside}
use Rattle.tb_laws.proofs.CandidateLaws.{and_some}
use Rattle.tb_laws.proofs.StaircaseLaws.{best_values_from_staircase}
use Rattle.plain_rounds.specs.declared.arrivals.StopArrivals.{StopArrivals}
use Rattle.plain_rounds.specs.declared.arrivals.PlainRide.{PlainRide}
use Rattle.plain_rounds.specs.declared.hits.TargetArrival.{TargetArrival}
use Rattle.plain_rounds.specs.declared.labels.StopLabel.{StopLabel}
use Rattle.plain_rounds.specs.declared.rounds.Rounds.{Rounds}
use Rattle.plain_rounds.specs.PlainAnswer.{IsPlainAnswer, IsRound, IsShownWithin}
use Rattle.plain_rounds.specs.Hits.{IsHitFrom, IsDueFrom, IsHitOf, IsDueOf, IsArrivalHit, IsHitOfOrigin, IsDueOfOrigin}
use Rattle.plain_rounds.specs.Labels.{IsNoLaterAt, AreEarly, Takes, IsOfferedByChange, IsOfferedByOrigin, label_at}
use Rattle.plain_rounds.specs.Rounds.{AreKept, IsBoardable, TakesRides, ride_of}
use Rattle.plain_rounds.specs.Rides.{IsTrace, IsArrivalLabel, AreArrivals, AreReady}
use Rattle.plain_rounds.specs.Shown.{IsInside, IsNearest, SpellShortest}
use Rattle.std.proofs.Math.ListN.{get_or-append}
use Rattle.plain_rounds.proofs.RoundLemmas.{label_and, and_label, label_inside, arrivals-more, arrivals-all, arrivals-none, ready-more, ready-first}
use Rattle.plain_rounds.proofs.ValueLemmas.{IsEnded, attained-ended, attained-walk, ended-attained, shown, first-walk, ridden-inside, ridden-some}
use Rattle.tb_base.proofs.NumberFacts.{≤ℤ-trans, <ℤ-≤ℤ-trans, <ℤ-weaker, ≤ℤ-refl}
use Rattle.tb_base.proofs.Lists.{IsSome-some}

<-clash : (a b c : ℤ) → a <ℤ b → b ≤ℤ c → c ≤ℤ a → ⊥
<-clash a b c g h k = omega (arith, ints, g, h, k)

known : (P : ℤ → Type 0) (o : Option ℤ) → IsSomeAnd o P → (z : ℤ) × (o ≡ Some z) × P z
known P None h = absurd h
known P (Some z) h = (z, refl, h)

module _ (T : TimetableData) (Q : QueryData) where
  shown-attained : (legs : List Leg) (v : Value) → SpellShortest T Q legs v → IsAttained T Q v
  shown-attained legs v s = (s.by, s.has)

  attained-choice : (most : ℕ) (cs : List ChoiceData) (best : Option ℤ) → IsPlainAnswer T Q most cs best → (c : ChoiceData) → Contains cs c → IsAttained T Q c.value
  attained-choice most cs best a c among = shown-attained c.legs c.value (All-contains (λ c. SpellShortest T Q (ChoiceData.legs c) (ChoiceData.value c)) cs c a.shown among)

  few-choice : (most : ℕ) (cs : List ChoiceData) (best : Option ℤ) → IsPlainAnswer T Q most cs best → (c : ChoiceData) → Contains cs c → c.value.rides ≤ most
  few-choice most cs best a c among = All-contains (λ c. (ChoiceData.value c).rides ≤ most) cs c a.few among

  -- one more ride is no better
  module _ (most : ℕ) (cs : List ChoiceData) (best : Option ℤ) (a : IsPlainAnswer T Q most cs best) where
    below_or_next : (n : ℕ) → n ≤ suc most → (n ≤ most) ⊎ (n ≡ suc most)
    below_or_next n h = grind arith

    pub answer-same : ((v : Value) → IsAttained T Q v → v.rides ≡ suc most → IsSomeAnd best (λ b. b ≤ℤ v.arrive)) → IsPlainAnswer T Q (suc most) cs best
    answer-same none = record {
      shown = a.shown;
      few = λ k d below. (let h : (ChoiceData.value (get_or cs k d)).rides ≤ most = a.few k d below in omega (arith, h));
      stairs = a.stairs;
      least = a.least;
      had = a.had;
      covers = λ v attained within. by_case v attained (below_or_next v.rides within);
    }
      where
        at_best : (v : Value) (o : Option ℤ) → o ≡ best → v.rides ≡ suc most → IsSomeAnd o (λ b. b ≤ℤ v.arrive) → IfSome o (λ b. (c : ChoiceData) × Contains cs c × (c.value.arrive ≡ b)) → (c : ChoiceData) × Contains cs c × IsNoWorse c.value v
        at_best v None e n h k = absurd h
        at_best v (Some b) e n h (c, among, is) = (c, among, (subst (λ z. z ≤ℤ v.arrive) (sym is) h, omega (arith, n, few-choice most cs best a c among)))

        by_case : (v : Value) → IsAttained T Q v → (v.rides ≤ most) ⊎ (v.rides ≡ suc most) → (c : ChoiceData) × Contains cs c × IsNoWorse c.value v
        by_case v attained (inl within) = a.covers v attained within
        by_case v attained (inr e) = at_best v best refl e (none v attained e) a.had

    -- a better arrival has one more ride
    pub exact : (v : Value) → IsAttained T Q v → v.rides ≤ suc most → IfSome best (λ b. v.arrive <ℤ b) → v.rides ≡ suc most
    exact v attained within better = by_case (below_or_next v.rides within)
      where
        clash : (c : ChoiceData) → Contains cs c → c.value.arrive ≤ℤ v.arrive → (o : Option ℤ) → IsSomeAnd o (λ b. b ≤ℤ c.value.arrive) → IfSome o (λ b. v.arrive <ℤ b) → ⊥
        clash c among le None h k = h
        clash c among le (Some b) h k = <-clash v.arrive b c.value.arrive k h le

        by_case : (v.rides ≤ most) ⊎ (v.rides ≡ suc most) → v.rides ≡ suc most
        by_case (inl few) = let c = a.covers v attained few in absurd (clash c.0 c.1 c.2.0 best (a.least c.0 c.1) better)
        by_case (inr e) = e

    -- one more ride is better
    module _ (new : ChoiceData) (shown : SpellShortest T Q new.legs new.value) (rides : new.value.rides ≡ suc most) (better : IfSome best (λ b. new.value.arrive <ℤ b)) (least : (v : Value) → IsAttained T Q v → v.rides ≡ suc most → new.value.arrive ≤ℤ v.arrive) where
      earlier : (c : ChoiceData) → Contains cs c → new.value.arrive <ℤ c.value.arrive
      earlier c among = by_best best (a.least c among) better
        where
          by_best : (o : Option ℤ) → IsSomeAnd o (λ b. b ≤ℤ c.value.arrive) → IfSome o (λ b. new.value.arrive <ℤ b) → new.value.arrive <ℤ c.value.arrive
          by_best None h k = absurd h
          by_best (Some b) h k = <ℤ-≤ℤ-trans new.value.arrive b c.value.arrive k h

      ≤-same : (x : ℤ) → x ≤ℤ x
      ≤-same x = omega (arith, ints)

      kept : (c : ChoiceData) → Contains cs c → Contains (cs ++ new ∷ []) c
      kept c (k, below, is) = (k, omega (arith, length-append cs (new ∷ []), below), get_or-append cs (new ∷ []) c k below ∙ is)

      step : (k : ℕ) (d : Value) → k < length (map ChoiceData.value cs) → IsStep (get_or (map ChoiceData.value cs) k d) new.value
      step k d below =
          let inside : k < length cs = omega (arith, length-map {A = ChoiceData} {B = Value} cs ChoiceData.value, below) in
          let c : ChoiceData = get_or cs k new in
          let among : Contains cs c = (k, inside, get_or_default cs k c new inside) in
          subst (λ v. IsStep v new.value) (sym (get_or-map ChoiceData.value cs k new d inside)) (omega (arith, few-choice most cs best a c among, rides), earlier c among)

      pub answer-more : IsPlainAnswer T Q (suc most) (cs ++ new ∷ []) (Some new.value.arrive)
      answer-more = record {
        shown = All-push (λ c. SpellShortest T Q (ChoiceData.legs c) (ChoiceData.value c)) cs new a.shown shown;
        few = All-push (λ c. (ChoiceData.value c).rides ≤ suc most) cs new (λ k d below. (let h : (ChoiceData.value (get_or cs k d)).rides ≤ most = a.few k d below in omega (arith, h))) (omega (arith, rides));
        stairs = subst (λ vs. AllPairs IsStep vs) (sym (map_push ChoiceData.value cs new)) (all_pairs_push IsStep (map ChoiceData.value cs) new.value a.stairs step);
        least = λ c among. elim (Contains-push_cases cs new c among) [ inl k ↦ <ℤ-weaker new.value.arrive c.value.arrive (earlier c k) | inr e ↦ subst (λ (x : ChoiceData). new.value.arrive ≤ℤ x.value.arrive) e (≤-same new.value.arrive) ];
        had = (new, Contains-push cs new, refl);
        covers = λ v attained within. by_case v attained (below_or_next v.rides within);
      }
        where
          by_case : (v : Value) → IsAttained T Q v → (v.rides ≤ most) ⊎ (v.rides ≡ suc most) → (c : ChoiceData) × Contains (cs ++ new ∷ []) c × IsNoWorse c.value v
          by_case v attained (inl few) = let c = a.covers v attained few in (c.0, kept c.0 c.1, c.2)
          by_case v attained (inr e) = (new, Contains-push cs new, (least v attained e, omega (arith, rides, e)))

  -- the first answer
  pub answer-none : ((v : Value) → IsAttained T Q v → v.rides ≡ 0 → ⊥) → IsPlainAnswer T Q 0 [] None
  answer-none none = record {
    shown = λ k d below. absurd (omega (arith, below));
    few = λ k d below. absurd (omega (arith, below));
    stairs = λ i j d before below. absurd (omega (arith, below));
    least = λ c among. absurd (omega (arith, among.1));
    had = tt;
    covers = λ v attained within. absurd (none v attained (omega (arith, within)));
  }

  pub answer-one : (new : ChoiceData) → SpellShortest T Q new.legs new.value → new.value.rides ≡ 0 → ((v : Value) → IsAttained T Q v → v.rides ≡ 0 → new.value.arrive ≤ℤ v.arrive) → IsPlainAnswer T Q 0 (new ∷ []) (Some new.value.arrive)
  answer-one new shown rides least = record {
    shown = All-cons (λ c. SpellShortest T Q (ChoiceData.legs c) (ChoiceData.value c)) new [] shown (λ k d below. absurd (omega (arith, below)));
    few = All-cons (λ c. (ChoiceData.value c).rides ≤ 0) new [] (omega (arith, rides)) (λ k d below. absurd (omega (arith, below)));
    stairs = λ i j d before below. absurd (omega (arith, before, below));
    least = λ c among. subst (λ (x : ChoiceData). new.value.arrive ≤ℤ x.value.arrive) (only c among) (≤ℤ-refl new.value.arrive);
    had = (new, Contains-push [] new, refl);
    covers = λ v attained within. (new, Contains-push [] new, (least v attained (omega (arith, within)), omega (arith, rides)));
  }
    where
      only : (c : ChoiceData) → Contains (new ∷ []) c → new ≡ c
      only c among = elim (Contains-push_cases [] new c among) [ inl k ↦ absurd (omega (arith, k.1)) | inr e ↦ e ]

  -- what is due by arrivals
  module _ (a : StopArrivals) (v : Value) (e : IsEnded T Q v) where
    plus : (x y z : ℤ) (s : ℕ) → x ≤ℤ y → z ≡ (y +ℤ pos s) → (x +ℤ pos s) ≤ℤ z
    plus x y z s h e = omega (arith, ints, h, e)

    secs_is : (o : Option ℕ) (n : ℕ) → o ≡ Some n → unwrap_or o 0 ≡ n
    secs_is o n e = ap (λ x. unwrap_or x 0) e

    -- the label of the last stop, and the walk from there
    pub record IsDueBy : Type 0 where
      pub label : StopLabel
      pub at : label_at a.labels.items (alighting_stop T e.last) ≡ Some label
      pub secs : ℕ
      pub walks : walk T (alighting_stop T e.last) e.target ≡ Some secs
      pub early : (label.time +ℤ pos secs) ≤ℤ v.arrive

    pub due_by : IsNoLaterAt a.labels.items (alighting_stop T e.last) (alighting_time T e.last) → IsDueBy
    due_by h =
        let l = label_and (λ l. l.time ≤ℤ alighting_time T e.last) (label_at a.labels.items (alighting_stop T e.last)) h in
        let w = IsSome-some (walk T (alighting_stop T e.last) e.target) e.walks in
        record { label = l.0; at = l.1; secs = w.0; walks = w.1; early = plus l.0.time (alighting_time T e.last) v.arrive w.0 l.2 (e.arrives ∙ ap (λ n. alighting_time T e.last +ℤ pos n) (secs_is (walk T (alighting_stop T e.last) e.target) w.0 w.1)) }

    pub is_due : length a.labels.items ≡ length T.stops → (d : IsDueBy) → IsDueOf T Q.to a.labels.items (d.label.time +ℤ pos d.secs)
    is_due long d = (
      alighting_stop T e.last,
      subst (λ n. alighting_stop T e.last < n) long (label_inside a.labels.items (alighting_stop T e.last) d.label d.at),
      and_label (λ l. IsDueFrom T Q.to (alighting_stop T e.last) l (d.label.time +ℤ pos d.secs)) (label_at a.labels.items (alighting_stop T e.last)) d.label d.at
          (e.target, e.to, and_some (λ secs. (d.label.time +ℤ pos d.secs) ≡ (d.label.time +ℤ pos secs)) (walk T (alighting_stop T e.last) e.target) d.secs d.walks refl),
    )

  -- what is due by a value with rides
  due_of : (most : ℕ) (a : StopArrivals) → AreArrivals T Q most a → (v : Value) → IsAttained T Q v → 0 < v.rides → v.rides ≤ most → (d : ℤ) × IsDueOf T Q.to a.labels.items d × (d ≤ℤ v.arrive)
  due_of most a are v attained some few =
      let e = attained-ended T Q v attained some in
      let d = due_by a v e (are.all e.back e.last (omega (arith, e.rides, few)) e.boarded) in
      (d.label.time +ℤ pos d.secs, is_due a v e are.long d, d.early)

  module _ (most : ℕ) (cs : List ChoiceData) (best : Option ℤ) (a : IsPlainAnswer T Q most cs best) (arrivals : StopArrivals) (are : AreArrivals T Q (suc most) arrivals) where
    -- no target is reached
    pub answer-unreached : ((time : ℤ) → IsDueOf T Q.to arrivals.labels.items time → ⊥) → IsPlainAnswer T Q (suc most) cs best
    answer-unreached none = answer-same most cs best a (λ v attained n. (let d = due_of (suc most) arrivals are v attained (omega (arith, n)) (omega (arith, n)) in absurd (none d.0 d.1)))

    -- none is reached earlier
    pub answer-no_better : (h : TargetArrival) → ((time : ℤ) → IsDueOf T Q.to arrivals.labels.items time → h.arrive ≤ℤ time) → IsSomeAnd best (λ b. b ≤ℤ h.arrive) → IsPlainAnswer T Q (suc most) cs best
    answer-no_better h least le = answer-same most cs best a (λ v attained n. (let d = due_of (suc most) arrivals are v attained (omega (arith, n)) (omega (arith, n)) in weaker best v.arrive d.0 (least d.0 d.1) d.2 le))
      where
        weaker : (o : Option ℤ) (z d : ℤ) → h.arrive ≤ℤ d → d ≤ℤ z → IsSomeAnd o (λ b. b ≤ℤ h.arrive) → IsSomeAnd o (λ b. b ≤ℤ z)
        weaker None z d g k le = absurd le
        weaker (Some b) z d g k le = ≤ℤ-trans b h.arrive z le (≤ℤ-trans h.arrive d z g k)

    -- one is reached earlier
    pub answer-better : (h : TargetArrival) → ((time : ℤ) → IsDueOf T Q.to arrivals.labels.items time → h.arrive ≤ℤ time) → IfSome best (λ b. h.arrive <ℤ b) → (legs : List Leg) → IsShownWithin T Q (suc most) legs h.arrive →
        IsPlainAnswer T Q (suc most) (cs ++ record { value = record { arrive = h.arrive; rides = suc most }; legs = legs } ∷ []) (Some h.arrive)
    answer-better h least less legs (n, some, few, shows) =
        let n_is : n ≡ suc most = exact most cs best a (record { arrive = h.arrive; rides = n }) (shown-attained legs (record { arrive = h.arrive; rides = n }) shows) few less in
        answer-more most cs best a (record { value = record { arrive = h.arrive; rides = suc most }; legs = legs })
        (subst (λ m. SpellShortest T Q legs (record { arrive = h.arrive; rides = m })) n_is shows) refl less
        (λ v attained m. (let d = due_of (suc most) arrivals are v attained (omega (arith, m)) (omega (arith, m)) in ≤ℤ-trans h.arrive d.0 v.arrive (least d.0 d.1) d.2))

  -- a hit of the arrivals
  pub arrival_hit : (most : ℕ) (a : StopArrivals) → AreArrivals T Q most a → (h : TargetArrival) → IsHitOf T Q.to a.labels.items h → IsArrivalHit T Q a.ridden.items most h
  arrival_hit most a are h (p, inside, hits) =
      let l = label_and (λ l. IsHitFrom T Q.to p l h) (label_at a.labels.items p) hits in
      record { stop = p; label = l.0; arrival = are.sound p l.0 l.1; hit = l.2 }

  -- the rides to a hit
  module _ (ridden : List PlainRide) (most : ℕ) (h : TargetArrival) (ah : IsArrivalHit T Q ridden most h) where
    pub hit_back : List Ride
    hit_back = ah.arrival.last ∷ ah.arrival.back

    pub hit-trace : IsTrace ridden hit_back h.ride
    unfolding hit_back
    hit-trace = subst (λ o. IsTrace ridden (ah.arrival.last ∷ ah.arrival.back) o) (sym ah.hit.ride) ah.arrival.trace

    near_target : IsNearest (λ q. walk T (alighting_stop T ah.arrival.last) q) Q.to h.target
    near_target = subst (λ p. IsNearest (λ q. walk T p q) Q.to h.target) (sym ah.arrival.stop) ah.hit.nearest

    module _ (rides : List PlainRide) (are : map ride_of rides ≡ reverse hit_back) where
      are_hit : map ride_of rides ≡ reverse (ah.arrival.last ∷ ah.arrival.back)
      unfolding hit_back
      are_hit = are

      pub hit-inside : All (IsInside T) rides
      hit-inside = ridden-inside T Q ah.arrival.back ah.arrival.last ah.arrival.boarded h.target near_target.walks rides are_hit

      pub hit-some : 0 < length rides
      hit-some = ridden-some T Q ah.arrival.back ah.arrival.last ah.arrival.boarded h.target near_target.walks rides are_hit

      pub hit-walk : (f : PlainRide) (rest : List PlainRide) → rides ≡ f ∷ rest → (o s : ℕ) × (Contains Q.from o × (walk T o (stop_at T f.trip f.board) ≡ Some s))
      hit-walk = first-walk T Q ah.arrival.back ah.arrival.last ah.arrival.boarded h.target near_target.walks rides are_hit

      pub hit-shown : (f : PlainRide) (rest : List PlainRide) → rides ≡ f ∷ rest → (o : ℕ) → IsNearest (λ o. walk T o (stop_at T f.trip f.board)) Q.from o → (legs : List Leg) → legs ≡ legs_of T o (map ride_of rides) h.target → IsShownWithin T Q most legs h.arrive
      hit-shown f rest e o near legs spelt = (
        suc (length ah.arrival.back),
        omega arith,
        omega (arith, ah.arrival.few),
        shown T Q ah.arrival.back ah.arrival.last ah.arrival.boarded h.target near_target.walks rides are_hit f rest e o near near_target h.arrive arrives legs spelt,
      )
        where
          arrives : h.arrive ≡ (alighting_time T ah.arrival.last +ℤ walk_secs T (alighting_stop T ah.arrival.last) h.target)
          arrives = ah.hit.arrives ∙ ap (λ z. z +ℤ walk_secs T ah.stop h.target) (sym ah.arrival.time) ∙ ap (λ p. alighting_time T ah.arrival.last +ℤ walk_secs T p h.target) (sym ah.arrival.stop)

  -- with no ride
  module _ (start : StopLabel) (is_start : start.time ≡ Q.leave) where
    due_origin : (v : Value) → IsAttained T Q v → v.rides ≡ 0 → IsDueOfOrigin T Q.from Q.to start v.arrive
    due_origin v attained none =
        let w = attained-walk T Q v attained none in
        (w.0, w.1, (w.2.0, w.2.1, subst (λ z. IsSomeAnd (walk T w.0 w.2.0) (λ secs. v.arrive ≡ (z +ℤ pos secs))) (sym is_start) w.2.2))

    pub walk-none : ((time : ℤ) → IsDueOfOrigin T Q.from Q.to start time → ⊥) → IsPlainAnswer T Q 0 [] None
    walk-none none = answer-none (λ v attained n. none v.arrive (due_origin v attained n))

    pub walk-one : (h : TargetArrival) → IsHitOfOrigin T Q.from Q.to start h → ((time : ℤ) → IsDueOfOrigin T Q.from Q.to start time → h.arrive ≤ℤ time) → (legs : List Leg) → legs ≡ legs_of T h.from [] h.target →
        IsPlainAnswer T Q 0 (record { value = record { arrive = h.arrive; rides = 0 }; legs = legs } ∷ []) (Some h.arrive)
    walk-one h (o, from, hit) least legs spelt = answer-one (record { value = record { arrive = h.arrive; rides = 0 }; legs = legs }) (record {
      by = record { origin = h.from; rides = []; target = h.target };
      has = record {
        journey = record { origin = subst (λ p. Contains Q.from p) (sym hit.from) from; target = hit.nearest.among; leads = subst (λ p. IsSome (walk T p h.target)) (sym hit.from) hit.nearest.walks };
        leaves = tt;
        value = ap (λ (z : ℤ). record { arrive = z; rides = 0 }) (hit.arrives ∙ ap (λ z. z +ℤ walk_secs T o h.target) is_start ∙ ap (λ p. Q.leave +ℤ walk_secs T p h.target) (sym hit.from));
      };
      spelt = spelt;
      shortest = tt;
    }) refl (λ v attained n. least v.arrive (due_origin v attained n))

  -- arrivals are within the limit of times
  pub arrivals-early : IsSound T → (most : ℕ) (a : StopArrivals) → AreArrivals T Q most a → AreEarly a.labels.items
  arrivals-early sound most a are p = by_label (label_at a.labels.items p) refl
    where
      early : (l : StopLabel) → IsArrivalLabel T Q a.ridden.items most p l → l.time ≤ℤ pos 359999
      early l is =
          let inside = MayAlight-inside T is.last.trip is.last.alight is.boarded.ride.alights in
          let event : IsSoundEvent (length T.stops) (event_at T is.last.trip is.last.alight) = (sound.trip is.last.trip no_trip inside.0).events is.last.alight no_event inside.1 in
          subst (λ z. z ≤ℤ pos 359999) is.time (≤ℤ-trans (alighting_time T is.last) (event_at T is.last.trip is.last.alight).dep (pos 359999) event.waits event.latest)

      by_label : (o : Option StopLabel) → o ≡ label_at a.labels.items p → IfSome o (λ l. l.time ≤ℤ pos 359999)
      by_label None e = tt
      by_label (Some l) e = early l (are.sound p l (sym e))

  -- the first round
  pub round-first : (r : Rounds) (start : StopLabel) → start ≡ record { time = Q.leave; ride = None } → AreKept T r → ((p : ℕ) (l : StopLabel) → label_at (replicate (length T.stops) None) p ≡ Some l → ⊥) → Takes (replicate (length T.stops) None) r.ready.items (IsOfferedByOrigin T Q.from start) →
      r.arrivals.labels.items ≡ replicate (length T.stops) None → sum r.boarded_at.items ≤ 10000000 → IsRound T Q 0 r
  round-first r start is_start kept none takes empty few = record {
    kept = kept;
    ready = ready-first T Q (replicate (length T.stops) None) r.ready.items r.arrivals.ridden.items start is_start none takes;
    arrivals = arrivals-none T Q r.arrivals kept.labels nothing;
    changed = λ q l offered. (let m = label_and _ (label_at r.arrivals.labels.items offered.0) offered.2 in absurd (nothing offered.0 m.0 m.1));
    few = omega (arith, few);
  }
    where
      nothing : (p : ℕ) (l : StopLabel) → label_at r.arrivals.labels.items p ≡ Some l → ⊥
      nothing p l h = none p l (subst (λ xs. label_at xs p ≡ Some l) empty h)

  -- one more round
  module _ (most : ℕ) (old mid new : Rounds) (was : IsRound T Q most old) (same_ready : mid.ready.items ≡ old.ready.items) (takes : TakesRides T old.arrivals mid.arrivals (IsBoardable T old.ready.items)) where
    pub round-arrivals : AreArrivals T Q (suc most) mid.arrivals
    round-arrivals = arrivals-more T Q most old.ready.items old.arrivals mid.arrivals takes was.arrivals was.ready

    pub round-more : AreKept T new → Takes mid.ready.items new.ready.items (IsOfferedByChange T mid.arrivals.labels.items) → new.arrivals ≡ mid.arrivals → suc most + sum new.boarded_at.items ≤ 10000000 → IsRound T Q (suc most) new
    round-more kept changes same few = record {
      kept = kept;
      ready = subst (λ (a : StopArrivals). AreReady T Q (suc most) a.ridden.items new.ready.items) (sym same)
          (ready-more T Q most mid.ready.items new.ready.items old.arrivals.ridden.items mid.arrivals round-arrivals changes (subst (λ xs. AreReady T Q most old.arrivals.ridden.items xs) (sym same_ready) was.ready) takes.ridden);
      arrivals = subst (λ (a : StopArrivals). AreArrivals T Q (suc most) a) (sym same) round-arrivals;
      changed = subst (λ (a : StopArrivals). (q : ℕ) (l : StopLabel) → IsOfferedByChange T a.labels.items q l → IsNoLaterAt new.ready.items q l.time) (sym same) changes.taken;
      few = few;
    }

    -- a round that is the last
    module _ (cs : List ChoiceData) (best : Option ℤ) (a : IsPlainAnswer T Q most cs best) (last : length mid.arrivals.ridden.items ≡ length old.arrivals.ridden.items) where
      -- a value with any number of rides is no better than one with at most so many
      covers-all : (v : Value) → IsAttained T Q v → (c : ChoiceData) × Contains cs c × IsNoWorse c.value v
      covers-all v attained = by_rides (zero_or_some v.rides)
        where
          zero_or_some : (n : ℕ) → (n ≡ 0) ⊎ (0 < n)
          zero_or_some n = grind arith

          within_or_past : (m n : ℕ) → (m ≤ n) ⊎ (n < m)
          within_or_past m n = grind arith

          same : mid.arrivals.labels.items ≡ old.arrivals.labels.items
          same = takes.unchanged last

          -- the value by the label of the last stop
          by_due : (e : IsEnded T Q v) → (d : IsDueBy old.arrivals v e) → (c : ChoiceData) × Contains cs c × IsNoWorse c.value v
          by_due e d =
              let is : IsArrivalLabel T Q old.arrivals.ridden.items most (alighting_stop T e.last) d.label = was.arrivals.sound (alighting_stop T e.last) d.label d.at in
              let w : Value = record { arrive = d.label.time +ℤ pos d.secs; rides = suc (length is.back) } in
              let attains : IsAttained T Q w = ended-attained T Q is.back is.last is.boarded e.target e.to (d.label.time +ℤ pos d.secs) d.secs (ap (λ p. walk T p e.target) is.stop ∙ d.walks) (ap (λ z. z +ℤ pos d.secs) (sym is.time)) in
              let c = a.covers w attains (omega (arith, is.few)) in
              by_count c.0 c.1 c.2.0 (within_or_past v.rides most)
            where
              by_count : (c : ChoiceData) → Contains cs c → c.value.arrive ≤ℤ (d.label.time +ℤ pos d.secs) → (v.rides ≤ most) ⊎ (most < v.rides) → (c : ChoiceData) × Contains cs c × IsNoWorse c.value v
              by_count c among early (inl few) = a.covers v attained few
              by_count c among early (inr many) = (c, among, (≤ℤ-trans c.value.arrive (d.label.time +ℤ pos d.secs) v.arrive early d.early, omega (arith, few-choice most cs best a c among, many)))

          by_rides : (v.rides ≡ 0) ⊎ (0 < v.rides) → (c : ChoiceData) × Contains cs c × IsNoWorse c.value v
          by_rides (inl none) = a.covers v attained (omega (arith, none))
          by_rides (inr some) =
              let e = attained-ended T Q v attained some in
              by_due e (due_by old.arrivals v e (subst (λ xs. IsNoLaterAt xs (alighting_stop T e.last) (alighting_time T e.last)) same
              (arrivals-all T Q most old.ready.items old.arrivals mid.arrivals takes was.ready was.changed was.arrivals.long same e.back e.last e.boarded)))

      -- so these are the best values
      pub best-values : IsSound T → AreBestValues T Q (map ChoiceData.value cs)
      best-values sound = best_values_from_staircase T Q (map ChoiceData.value cs) sound
          (All-map (IsAttained T Q) ChoiceData.value cs (λ k d below. shown-attained (ChoiceData.legs (get_or cs k d)) (ChoiceData.value (get_or cs k d)) (a.shown k d below)))
          (λ v is. complete v is (covers-all v is.attained))
          a.stairs
        where
          complete : (v : Value) → IsBest T Q v → (c : ChoiceData) × Contains cs c × IsNoWorse c.value v → Contains (map ChoiceData.value cs) v
          complete v is (c, among, no_worse) =
              let same : c.value ≡ v = is.undominated c.value (attained-choice most cs best a c among) no_worse in
              (among.0, omega (arith, among.1, length-map {A = ChoiceData} {B = Value} cs ChoiceData.value), get_or-map ChoiceData.value cs among.0 c v among.1 ∙ ap (λ (x : ChoiceData). x.value) among.2 ∙ same)

  -- what is shown spells a value
  pub shown-spell : (cs : List ChoiceData) → All (λ c. SpellShortest T Q (ChoiceData.legs c) (ChoiceData.value c)) cs → All (λ c. SpellValue T Q (ChoiceData.legs c) (ChoiceData.value c)) cs
  shown-spell cs all k d below = (let s : SpellShortest T Q (ChoiceData.legs (get_or cs k d)) (ChoiceData.value (get_or cs k d)) = all k d below in record { by = s.by; has = s.has; spelt = s.spelt })

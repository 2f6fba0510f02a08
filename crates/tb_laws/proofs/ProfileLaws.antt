-- A slot of the profile, by two queries: one at its leaving time, and one a second later.
use Rattle.std.proofs.Common.{◌≡◌, ℕ, zero, suc, ◌<◌, ◌≤◌, ◌⊎◌, inl, inr, List, [], ◌∷◌, length, refl, sym, ap, subst, ◌∙◌, arith, ℤ, pos, ◌+ℤ◌, ◌≤ℤ◌, ◌<ℤ◌, Some, None, Option}
use Rattle.std.specs.Prelude.{Contains, IsSome}
use Rattle.std.proofs.lemmas.Int.{ints}
use Rattle.tb_base.specs.declared.query.Value.{Value}
use Rattle.tb_base.specs.declared.query.Slot.{Slot}
use Rattle.tb_base.specs.TimetableData.{TimetableData}
use Rattle.tb_base.specs.Walking.{walk}
use Rattle.tb_base.specs.Soundness.{IsSound}
use Rattle.tb_base.specs.Journeys.{Ride, Journey, IsJourney, Leads, LeavesNoEarlier, leaving_time, arrival_after, walk_secs}
use Rattle.tb_base.specs.BestValues.{QueryData, HasValue, IsAttained, IsNoWorse, IsBest, value_of}
use Rattle.tb_base.specs.Profiles.{WindowData, slot_of, IsOffered, IsSlotNoWorse, IsProfileSlot}
use Rattle.tb_laws.proofs.Triangles.{walk_secs-is}
use Rattle.tb_laws.proofs.CoverLaws.{attained_later, some_best, some_size}
use Rattle.tb_base.proofs.NumberFacts.{cases_ltℤ, ≤ℤ-trans, ≤ℤ-same_back, ≤ℤ-same}

at_or_later : (a b : ℤ) → a ≤ℤ b → (b ≡ a) ⊎ ((a +ℤ pos 1) ≤ℤ b)
at_or_later a b h = grind (arith, ints)

module _ (T : TimetableData) (sound : IsSound T) (W : WindowData) (time : ℤ) (v : Value) (some_ride : 0 < v.rides)
    (best : IsBest T (record { from = W.from; to = W.to; leave = time }) v)
    (none_later : (w : Value) → IsBest T (record { from = W.from; to = W.to; leave = time +ℤ pos 1 }) w → 0 < w.rides → IsNoWorse w v → ⊥) where
  abbrev now : QueryData
  now = record { from = W.from; to = W.to; leave = time }

  abbrev later : QueryData
  later = record { from = W.from; to = W.to; leave = time +ℤ pos 1 }

  -- a walk that leaves at the time arrives after v
  walks_later : (p q secs : ℕ) → Contains W.from p → Contains W.to q → walk T p q ≡ Some secs → (time +ℤ pos secs) ≤ℤ v.arrive → ⊥
  walks_later p q secs from to walks early =
      let w : Value = record { arrive = time +ℤ walk_secs T p q; rides = 0 } in
      let e : w ≡ v = best.undominated w (record { origin = p; rides = []; target = q }, record { journey = record { origin = from; target = to; leads = subst (λ o. IsSome o) (sym walks) refl }; leaves = tt; value = refl })
      (subst (λ x. (time +ℤ x) ≤ℤ v.arrive) (sym (walk_secs-is T p q secs walks)) early, omega arith) in
      let r : 0 ≡ v.rides = ap (λ (x : Value). x.rides) e in
      omega (arith, r, some_ride)

  -- no value with rides that is attained a second later is as good
  not_later : (w : Value) → IsAttained T later w → IsNoWorse w v → ⊥
  not_later w attained le =
      let n = some_size T sound later.leave w.arrive w.rides (attained_later T sound later w attained) in
      some_best T sound later n.0 w attained n.1 (λ x x_best below. by_rides x x_best (≤ℤ-trans _ _ _ below.0 le.0, omega (arith, below.1, le.1)) x.rides refl)
    where
      on_foot : (x : Value) → (j : Journey) → HasValue T later j x → IsNoWorse x v → x.rides ≡ 0 → ⊥
      on_foot x j has below e = by_list j.origin j.rides j.target has.journey.origin has.journey.target has.journey.leads has.value
        where
          by_list : (o : ℕ) (rides : List Ride) (q : ℕ) → Contains W.from o → Contains W.to q → Leads T o rides q → x ≡ value_of T (time +ℤ pos 1) (record { origin = o; rides = rides; target = q }) → ⊥
          by_list o [] q from to leads value = foot (walk T o q) refl leads
            where
              sooner : (t a b : ℤ) (n : ℕ) → a ≡ ((t +ℤ pos 1) +ℤ pos n) → a ≤ℤ b → (t +ℤ pos n) ≤ℤ b
              sooner t a b n e h = omega (arith, ints, e, h)

              foot : (o' : Option ℕ) → o' ≡ walk T o q → IsSome o' → ⊥
              foot (Some n) f there = walks_later o q n from to (sym f) (sooner time x.arrive v.arrive n (ap (λ (y : Value). y.arrive) value ∙ ap (λ z. (time +ℤ pos 1) +ℤ z) (walk_secs-is T o q n (sym f))) below.0)
              foot None f there = cc
          by_list o (r ∷ rest) q from to leads value = (let f : x.rides ≡ suc (length rest) = ap (λ (y : Value). y.rides) value in omega (arith, e, f))

      by_rides : (x : Value) → IsBest T later x → IsNoWorse x v → (k : ℕ) → k ≡ x.rides → ⊥
      by_rides x x_best below zero e = on_foot x x_best.attained.0 x_best.attained.1 below (sym e)
      by_rides x x_best below (suc k) e = none_later x x_best (omega (arith, e)) below

  -- so a journey that is as good leaves just then
  leaves_now : (o : ℕ) (r : Ride) (rest : List Ride) (q : ℕ) → IsJourney T W.from W.to (record { origin = o; rides = r ∷ rest; target = q }) → time ≤ℤ leaving_time T o r → arrival_after T r rest q ≤ℤ v.arrive → suc (length rest) ≤ v.rides → leaving_time T o r ≡ time
  leaves_now o r rest q journey leaves early few = by_case (at_or_later time (leaving_time T o r) leaves)
    where
      by_case : (leaving_time T o r ≡ time) ⊎ ((time +ℤ pos 1) ≤ℤ leaving_time T o r) → leaving_time T o r ≡ time
      by_case (inl e) = e
      by_case (inr h) = absurd (not_later (record { arrive = arrival_after T r rest q; rides = suc (length rest) })
          (record { origin = o; rides = r ∷ rest; target = q }, record { journey = journey; leaves = h; value = refl }) (early, few))

  pub profile_slot : W.first ≤ℤ time → time ≤ℤ W.last → IsProfileSlot T W (record { leave = time; arrive = v.arrive; rides = v.rides })
  profile_slot from_first to_last = record {
    offered = offered best.attained.0.origin best.attained.0.rides best.attained.0.target best.attained.1.journey best.attained.1.leaves best.attained.1.value;
    not_before = from_first;
    not_after = to_last;
    undominated = λ other is le. only other is le;
    beats_walks = λ p q secs from to walks. beats p q secs from to walks (cases_ltℤ v.arrive (time +ℤ pos secs));
  }
    where
      beats : (p q secs : ℕ) → Contains W.from p → Contains W.to q → walk T p q ≡ Some secs → (v.arrive <ℤ (time +ℤ pos secs)) ⊎ ((time +ℤ pos secs) ≤ℤ v.arrive) → v.arrive <ℤ (time +ℤ pos secs)
      beats p q secs from to walks (inl h) = h
      beats p q secs from to walks (inr h) = absurd (walks_later p q secs from to walks h)

      same_slot : (l l' a a' : ℤ) (k k' : ℕ) → l ≡ l' → a ≡ a' → k ≡ k' → ◌≡◌ {A = Slot} (record { leave = l; arrive = a; rides = k }) (record { leave = l'; arrive = a'; rides = k' })
      same_slot l l' a a' k k' d e f = cc

      offered : (o : ℕ) (rides : List Ride) (q : ℕ) → IsJourney T W.from W.to (record { origin = o; rides = rides; target = q }) → LeavesNoEarlier T time o rides → v ≡ value_of T time (record { origin = o; rides = rides; target = q }) → IsOffered T W (record { leave = time; arrive = v.arrive; rides = v.rides })
      offered o [] q journey leaves value = absurd (let e : v.rides ≡ 0 = ap (λ (x : Value). x.rides) value in omega (arith, e, some_ride))
      offered o (r ∷ rest) q journey leaves value =
          let a : v.arrive ≡ arrival_after T r rest q = ap (λ (x : Value). x.arrive) value in
          let k : v.rides ≡ suc (length rest) = ap (λ (x : Value). x.rides) value in
          record {
            origin = o;
            first = r;
            rest = rest;
            target = q;
            journey = journey;
            is = same_slot _ _ _ _ _ _ (sym (leaves_now o r rest q journey leaves (≤ℤ-same_back _ _ a) (omega (arith, k)))) a k;
          }

      only : (other : Slot) → IsOffered T W other → IsSlotNoWorse other (record { leave = time; arrive = v.arrive; rides = v.rides }) → other ≡ record { leave = time; arrive = v.arrive; rides = v.rides }
      only other is le = by_parts other.leave other.arrive other.rides (ap (λ (s : Slot). s.leave) is.is) (ap (λ (s : Slot). s.arrive) is.is) (ap (λ (s : Slot). s.rides) is.is) le.leave le.arrive le.rides
        where
          by_parts : (l a : ℤ) (k : ℕ) → l ≡ leaving_time T is.origin is.first → a ≡ arrival_after T is.first is.rest is.target → k ≡ suc (length is.rest) → time ≤ℤ l → a ≤ℤ v.arrive → k ≤ v.rides → ◌≡◌ {A = Slot} (record { leave = l; arrive = a; rides = k }) (record { leave = time; arrive = v.arrive; rides = v.rides })
          by_parts l a k d e f g h m =
              let leaves : time ≤ℤ leaving_time T is.origin is.first = subst (λ x. time ≤ℤ x) d g in
              let early : arrival_after T is.first is.rest is.target ≤ℤ v.arrive = subst (λ x. x ≤ℤ v.arrive) e h in
              let few : suc (length is.rest) ≤ v.rides = omega (arith, f, m) in
              let same : record { arrive = arrival_after T is.first is.rest is.target; rides = suc (length is.rest) } ≡ v
              = best.undominated (record { arrive = arrival_after T is.first is.rest is.target; rides = suc (length is.rest) })
              (record { origin = is.origin; rides = is.first ∷ is.rest; target = is.target }, record { journey = is.journey; leaves = leaves; value = refl }) (early, few) in
              same_slot _ _ _ _ _ _ (d ∙ leaves_now is.origin is.first is.rest is.target is.journey leaves early few) (e ∙ ap (λ (x : Value). x.arrive) same) (f ∙ ap (λ (x : Value). x.rides) same)

-- Each slot of the profile is found so: it is best at its leaving time, and nothing as good leaves a second later.
module _ (T : TimetableData) (W : WindowData) (slot : Slot) (is : IsProfileSlot T W slot) where
  -- a journey that leaves at the slot's time or later and is as good has the slot
  same_as_slot : (o : ℕ) (r : Ride) (rest : List Ride) (q : ℕ) → IsJourney T W.from W.to (record { origin = o; rides = r ∷ rest; target = q }) → slot.leave ≤ℤ leaving_time T o r → arrival_after T r rest q ≤ℤ slot.arrive → suc (length rest) ≤ slot.rides → slot_of T o r rest q ≡ slot
  same_as_slot o r rest q journey leaves early few =
      is.undominated (slot_of T o r rest q) (record { origin = o; first = r; rest = rest; target = q; journey = journey; is = refl }) (record { leave = leaves; arrive = early; rides = few })

  pub slot_has_ride : 0 < slot.rides
  slot_has_ride = let e : slot.rides ≡ suc (length is.offered.rest) = ap (λ (s : Slot). s.rides) is.offered.is in omega (arith, e)

  pub slot_best : IsBest T (record { from = W.from; to = W.to; leave = slot.leave }) (record { arrive = slot.arrive; rides = slot.rides })
  slot_best = record {
    attained = (
      record { origin = is.offered.origin; rides = is.offered.first ∷ is.offered.rest; target = is.offered.target },
      record {
        journey = is.offered.journey;
        leaves = ≤ℤ-same _ _ (ap (λ (s : Slot). s.leave) is.offered.is);
        value = ap (λ (s : Slot). record { arrive = s.arrive; rides = s.rides }) is.offered.is;
      },
    );
    undominated = λ w (j, has) le. by_rides w le j.origin j.rides j.target has.journey has.leaves has.value;
  }
    where
      by_rides : (w : Value) → IsNoWorse w (record { arrive = slot.arrive; rides = slot.rides }) → (o : ℕ) (rides : List Ride) (q : ℕ) → IsJourney T W.from W.to (record { origin = o; rides = rides; target = q }) → LeavesNoEarlier T slot.leave o rides →
          w ≡ value_of T slot.leave (record { origin = o; rides = rides; target = q }) → w ≡ record { arrive = slot.arrive; rides = slot.rides }
      by_rides w le o [] q journey leaves value = absurd (foot (walk T o q) refl journey.leads)
        where
          clash : (l a x : ℤ) (n : ℕ) → a ≡ (l +ℤ pos n) → a ≤ℤ x → x <ℤ (l +ℤ pos n) → ⊥
          clash l a x n e g h = omega (arith, ints, e, g, h)

          foot : (o' : Option ℕ) → o' ≡ walk T o q → IsSome o' → ⊥
          foot None f there = cc
          foot (Some n) f there = clash slot.leave w.arrive slot.arrive n (ap (λ (v : Value). v.arrive) value ∙ ap (λ z. slot.leave +ℤ z) (walk_secs-is T o q n (sym f))) le.0 (is.beats_walks o q n journey.origin journey.target (sym f))
      by_rides w le o (r ∷ rest) q journey leaves value =
          let a : w.arrive ≡ arrival_after T r rest q = ap (λ (v : Value). v.arrive) value in
          let k : w.rides ≡ suc (length rest) = ap (λ (v : Value). v.rides) value in
          let same : slot_of T o r rest q ≡ slot = same_as_slot o r rest q journey leaves (subst (λ x. x ≤ℤ slot.arrive) a le.0) (omega (arith, k, le.1)) in
          value ∙ ap (λ (s : Slot). record { arrive = s.arrive; rides = s.rides }) same

  pub slot_none_later : (w : Value) → IsAttained T (record { from = W.from; to = W.to; leave = slot.leave +ℤ pos 1 }) w → 0 < w.rides → IsNoWorse w (record { arrive = slot.arrive; rides = slot.rides }) → ⊥
  slot_none_later w (j, has) some_ride le = by_rides j.origin j.rides j.target has.journey has.leaves has.value
    where
      sooner : (a b : ℤ) → (a +ℤ pos 1) ≤ℤ b → a ≤ℤ b
      sooner a b h = omega (arith, ints, h)

      clash : (a b : ℤ) → (a +ℤ pos 1) ≤ℤ b → b ≡ a → ⊥
      clash a b h e = omega (arith, ints, h, e)

      by_rides : (o : ℕ) (rides : List Ride) (q : ℕ) → IsJourney T W.from W.to (record { origin = o; rides = rides; target = q }) → LeavesNoEarlier T (slot.leave +ℤ pos 1) o rides →
          w ≡ value_of T (slot.leave +ℤ pos 1) (record { origin = o; rides = rides; target = q }) → ⊥
      by_rides o [] q journey leaves value = let e : w.rides ≡ 0 = ap (λ (v : Value). v.rides) value in omega (arith, e, some_ride)
      by_rides o (r ∷ rest) q journey leaves value =
          let a : w.arrive ≡ arrival_after T r rest q = ap (λ (v : Value). v.arrive) value in
          let k : w.rides ≡ suc (length rest) = ap (λ (v : Value). v.rides) value in
          let same : slot_of T o r rest q ≡ slot = same_as_slot o r rest q journey (sooner _ _ leaves) (subst (λ x. x ≤ℤ slot.arrive) a le.0) (omega (arith, k, le.1)) in
          clash _ _ leaves (ap (λ (s : Slot). s.leave) same)

-- The slots of the rest of a window, from a time on, and one time more.
use Rattle.std.proofs.Common.{◌≡◌, ◌∙◌, ℕ, suc, ◌<◌, ◌⊎◌, inl, inr, true, List, [], ◌∷◌, ◌++◌, length, map, get_or, refl, sym, ap, subst, arith, Option, Some, None, ℤ, pos, ◌+ℤ◌, ◌≤ℤ◌, ◌<ℤ◌}
use Rattle.std.specs.Prelude.{All, AllPairs, Contains, IsSome, filter}
use Rattle.std.proofs.lemmas.Int.{ints}
use Rattle.std.proofs.lemmas.List.Elements.{All-append, All-contains, All-contains_itself, All-filter, All-map, All-nil, All-weaker, Contains-append_left, Contains-append_right, Contains-get_or, filter_passes}
use Rattle.std.proofs.lemmas.List.Kept.{AllPairs-cons, AllPairs-filter}
use Rattle.tb_base.specs.declared.query.Slot.{Slot}
use Rattle.tb_base.specs.declared.query.Value.{Value}
use Rattle.tb_base.specs.TimetableData.{TimetableData}
use Rattle.tb_base.specs.Walking.{walk}
use Rattle.tb_base.specs.Journeys.{Ride, IsJourney, LeavesNoEarlier, leaving_time}
use Rattle.tb_base.specs.BestValues.{QueryData, IsAttained, IsBest, IsNoWorse, value_of}
use Rattle.tb_base.specs.Profiles.{WindowData, IsOffered, IsProfile, IsProfileSlot, SlotPrecedes}
use Rattle.tb_base.specs.Soundness.{IsSound}
use Rattle.tb_base.proofs.Ordered.{AllPairs-tail, Member, Contains-from_Member, Member-from_Contains}
use Rattle.tb_base.proofs.Members.{Member-filter}
use Rattle.tb_laws.proofs.ProfileLaws.{profile_slot, slot_best, slot_has_ride, slot_none_later}
use Rattle.tb_laws.proofs.Triangles.{walk_secs-is}
use Rattle.query_gate.specs.Leaving.{AreLeavingTimes, IsLeavingBefore, IsLeavingTime}
use Rattle.query_gate.specs.Slots.{AreFound, AreLater, is_kept, slot_at, slots_at}
use Rattle.query_gate.proofs.FromOrigin.{leaves_in_time}
use Rattle.query_gate.proofs.Kept.{best_is_found, kept-from, kept_beaten_by_none, kept_has_ride, kept_is_best}
use Rattle.tb_base.proofs.NumberFacts.{≤ℤ-trans, cases_ltℤ, ≤ℤ-refl}

-- the query of a window at a time
abbrev pub query_at : WindowData → ℤ → QueryData
query_at W time = record { from = W.from; to = W.to; leave = time }

-- the slots that leave from the time on, all of them, in order
pub record AreFrom (T : TimetableData) (W : WindowData) (time : ℤ) (slots : List Slot) : Type 0 where
  pub best : All (IsProfileSlot T W) slots
  pub from : All (λ (s : Slot). time ≤ℤ s.leave) slots
  pub complete : (slot : Slot) → IsProfileSlot T W slot → time ≤ℤ slot.leave → Contains slots slot
  pub ordered : AllPairs SlotPrecedes slots

-- pairs of two lists in a row, and of a list that is mapped
pairs-append : {X : Type 0} (R : X → X → Type 0) (xs ys : List X) → AllPairs R xs → AllPairs R ys → ((x y : X) → Contains xs x → Contains ys y → R x y) → AllPairs R (xs ++ ys)
pairs-append R [] ys p q f = q
pairs-append R (x ∷ xs) ys p q f =
    AllPairs-cons R x (xs ++ ys)
    (All-append (R x) xs ys (λ k d inside. p 0 (suc k) d (omega arith) (omega (arith, inside))) (λ k d inside. f x (get_or ys k d) (0, omega arith, refl) (Contains-get_or ys k d inside)))
    (pairs-append R xs ys (AllPairs-tail R x xs p) q (λ z y (k, inside, is) h. f z y (suc k, omega (arith, inside), is) h))

pub pairs-map : {X Y : Type 0} (R : X → X → Type 0) (S : Y → Y → Type 0) (f : X → Y) → ((v w : X) → R v w → S (f v) (f w)) → (xs : List X) → AllPairs R xs → AllPairs S (map f xs)
pairs-map R S f g [] p = λ i j d before below. absurd (omega (arith, below))
pairs-map R S f g (x ∷ xs) p =
    AllPairs-cons S (f x) (map f xs)
    (All-map (S (f x)) f xs (λ k d inside. g x (get_or xs k d) (p 0 (suc k) d (omega arith) (omega (arith, inside)))))
    (pairs-map R S f g xs (AllPairs-tail R x xs p))

at_or_after : (a b : ℤ) → a ≤ℤ b → (a ≡ b) ⊎ (a <ℤ b)
at_or_after a b h = grind (arith, ints, h)

module _ (T : TimetableData) (sound : IsSound T) (W : WindowData) (end time : ℤ) (later values : List Value) (one : IsLeavingBefore T W end time)
    (gap : (n : ℤ) → IsLeavingBefore T W end n → time <ℤ n → ⊥) (covered : (n : ℤ) → n <ℤ end → n ≤ℤ W.last)
    (are_later : AreLater T (query_at W end) later) (are_found : AreFound T (query_at W time) later values) where
  -- a journey with rides that leaves after the time leaves at the end or later
  leaves_late : (o : ℕ) (r : Ride) (rest : List Ride) (q : ℕ) → IsJourney T W.from W.to (record { origin = o; rides = r ∷ rest; target = q }) → (time +ℤ pos 1) ≤ℤ leaving_time T o r → end ≤ℤ leaving_time T o r
  leaves_late o r rest q journey late = by_case (cases_ltℤ (leaving_time T o r) end)
    where
      next : (a b : ℤ) → (a +ℤ pos 1) ≤ℤ b → a <ℤ b
      next a b h = omega (arith, ints, h)

      since : (a b c : ℤ) → a ≤ℤ b → (b +ℤ pos 1) ≤ℤ c → a ≤ℤ c
      since a b c g h = omega (arith, ints, g, h)

      by_case : (leaving_time T o r <ℤ end) ⊎ (end ≤ℤ leaving_time T o r) → end ≤ℤ leaving_time T o r
      by_case (inl h) = absurd (gap (leaving_time T o r)
          (record { leaves = leaves_in_time T W.from W.to o r rest q journey; not_before = since W.first time (leaving_time T o r) one.not_before late; not_after = covered (leaving_time T o r) h; before = h })
          (next time (leaving_time T o r) late))
      by_case (inr h) = h

  -- so what is attained a second later is attained at the end
  attained_late : (w : Value) → 0 < w.rides → IsAttained T (query_at W (time +ℤ pos 1)) w → IsAttained T (query_at W end) w
  attained_late w some_ride (j, has) = by_rides j.origin j.rides j.target has.journey has.leaves has.value
    where
      by_rides : (o : ℕ) (rides : List Ride) (q : ℕ) → IsJourney T W.from W.to (record { origin = o; rides = rides; target = q }) → LeavesNoEarlier T (time +ℤ pos 1) o rides → w ≡ value_of T (time +ℤ pos 1) (record { origin = o; rides = rides; target = q }) →
          IsAttained T (query_at W end) w
      by_rides o [] q journey leaves value = absurd (let e : w.rides ≡ 0 = ap (λ (v : Value). v.rides) value in omega (arith, e, some_ride))
      by_rides o (r ∷ rest) q journey leaves value = (record { origin = o; rides = r ∷ rest; target = q }, record { journey = journey; leaves = leaves_late o r rest q journey leaves; value = value })

  -- a value that is kept is a slot
  kept_is_slot : (v : Value) → Contains values v → is_kept later v ≡ true → IsProfileSlot T W (slot_at time v)
  kept_is_slot v in_values kept =
      profile_slot T sound W time v (kept_has_ride later v kept) (kept_is_best T (query_at W time) later values are_found v in_values kept)
      (λ w best some_ride le. (let u : (x : Value) × Contains later x × IsNoWorse x w = are_later.cover w (attained_late w some_ride best.attained) some_ride in
      kept_beaten_by_none later u.0 v kept u.1 (≤ℤ-trans u.0.arrive w.arrive v.arrive u.2.0 le.0, omega (arith, u.2.1, le.1))))
      one.not_before one.not_after

  -- a slot at the time beats all later values
  slot_beats : (slot : Slot) → IsProfileSlot T W slot → slot.leave ≡ time → (u : Value) → IsAttained T (query_at W end) u → IsNoWorse u (record { arrive = slot.arrive; rides = slot.rides }) → ⊥
  slot_beats slot is now u (j, has) le = by_rides j.origin j.rides j.target has.journey has.leaves has.value
    where
      beaten : (l t e a x : ℤ) (n : ℕ) → l ≡ t → t <ℤ e → a ≡ (e +ℤ pos n) → a ≤ℤ x → x <ℤ (l +ℤ pos n) → ⊥
      beaten l t e a x n same before is le beats = omega (arith, ints, same, before, is, le, beats)

      since : (l t e n : ℤ) → l ≡ t → t <ℤ e → e ≤ℤ n → (l +ℤ pos 1) ≤ℤ n
      since l t e n same before h = omega (arith, ints, same, before, h)

      by_rides : (o : ℕ) (rides : List Ride) (q : ℕ) → IsJourney T W.from W.to (record { origin = o; rides = rides; target = q }) → LeavesNoEarlier T end o rides → u ≡ value_of T end (record { origin = o; rides = rides; target = q }) → ⊥
      by_rides o [] q journey leaves value = on_foot (walk T o q) refl journey.leads
        where
          on_foot : (w : Option ℕ) → w ≡ walk T o q → IsSome w → ⊥
          on_foot None f there = cc
          on_foot (Some n) f there =
              beaten slot.leave time end u.arrive slot.arrive n now one.before (ap (λ (v : Value). v.arrive) value ∙ ap (λ z. end +ℤ z) (walk_secs-is T o q n (sym f))) le.0 (is.beats_walks o q n journey.origin journey.target (sym f))
      by_rides o (r ∷ rest) q journey leaves value =
          slot_none_later T W slot is u
          (record { origin = o; rides = r ∷ rest; target = q }, record { journey = journey; leaves = since slot.leave time end (leaving_time T o r) now one.before leaves; value = value })
          (let e : u.rides ≡ suc (length rest) = ap (λ (v : Value). v.rides) value in omega (arith, e)) le

  -- each slot at the time is a value that is kept
  slot_is_kept : (slot : Slot) → IsProfileSlot T W slot → slot.leave ≡ time → Contains (slots_at time later values) slot
  slot_is_kept slot is now =
      let v : Value = record { arrive = slot.arrive; rides = slot.rides } in
      let best : IsBest T (query_at W time) v = subst (λ l. IsBest T (query_at W l) v) now (slot_best T W slot is) in
      let kept : is_kept later v ≡ true = kept-from later v (slot_has_ride T W slot is) (λ u m le. slot_beats slot is now u (All-contains (IsAttained T (query_at W end)) later u are_later.attained (Contains-from_Member u later m)) le) in
      let member : Member v (filter (is_kept later) values) = Member-filter (is_kept later) v values (Member-from_Contains v values (best_is_found T (query_at W time) later values are_found v best kept)) kept in
      Contains-from_Member slot (slots_at time later values) (subst (λ l. Member (record { leave = l; arrive = slot.arrive; rides = slot.rides }) (slots_at time later values)) (sym now) (mapped (filter (is_kept later) values) v member))
    where
      mapped : (vs : List Value) (v : Value) → Member v vs → Member (slot_at time v) (map (slot_at time) vs)
      mapped [] v h = absurd h
      mapped (x ∷ xs) v (inl e) = inl (ap (slot_at time) e)
      mapped (x ∷ xs) v (inr h) = inr (mapped xs v h)

  -- the slots of the rest, and those of the time
  pub one_time_more : (slots : List Slot) → AreFrom T W end slots → AreFrom T W time (slots ++ slots_at time later values)
  one_time_more slots are = record {
    best = All-append (IsProfileSlot T W) slots (slots_at time later values) are.best (All-map (IsProfileSlot T W) (slot_at time) (filter (is_kept later) values) kept_slots);
    from = All-append (λ (s : Slot). time ≤ℤ s.leave) slots (slots_at time later values)
        (All-weaker (λ (s : Slot). end ≤ℤ s.leave) (λ (s : Slot). time ≤ℤ s.leave) (λ s h. onward time end s.leave one.before h) slots are.from)
        (All-map (λ (s : Slot). time ≤ℤ s.leave) (slot_at time) (filter (is_kept later) values) (λ k d inside. ≤ℤ-refl time));
    complete = λ slot is from. by_time slot is (at_or_after time slot.leave from);
    ordered = pairs-append SlotPrecedes slots (slots_at time later values) are.ordered
        (pairs-map (λ (v w : Value). v.rides < w.rides) SlotPrecedes (slot_at time) (λ v w h. inr (refl, h)) (filter (is_kept later) values) (AllPairs-filter (λ (v w : Value). v.rides < w.rides) (is_kept later) values (λ i j d before below. (are_found.stairs i j d before below).0)))
        (λ s t in_slots in_new. inl (earlier t.leave s.leave (new_leaves t in_new) (All-contains (λ (s : Slot). end ≤ℤ s.leave) slots s are.from in_slots)));
  }
    where
      onward : (a b c : ℤ) → a <ℤ b → b ≤ℤ c → a ≤ℤ c
      onward a b c g h = omega (arith, ints, g, h)

      earlier : (l m : ℤ) → l ≡ time → end ≤ℤ m → l <ℤ m
      earlier l m e h = (let before = one.before in omega (arith, ints, e, h, before))

      kept_slots : All (λ v. IsProfileSlot T W (slot_at time v)) (filter (is_kept later) values)
      kept_slots = λ k d inside.
          let v : Value = get_or (filter (is_kept later) values) k d in
          kept_is_slot v
          (All-contains (Contains values) (filter (is_kept later) values) v (All-filter (is_kept later) (Contains values) values (All-contains_itself values)) (Contains-get_or (filter (is_kept later) values) k d inside))
          (filter_passes (is_kept later) values k d inside)

      new_leaves : (t : Slot) → Contains (slots_at time later values) t → t.leave ≡ time
      new_leaves t h = All-contains (λ (s : Slot). s.leave ≡ time) (slots_at time later values) t (All-map (λ (s : Slot). s.leave ≡ time) (slot_at time) (filter (is_kept later) values) (λ k d inside. refl)) h

      by_time : (slot : Slot) → IsProfileSlot T W slot → (time ≡ slot.leave) ⊎ (time <ℤ slot.leave) → Contains (slots ++ slots_at time later values) slot
      by_time slot is (inl e) = Contains-append_right slots (slots_at time later values) slot (slot_is_kept slot is (sym e))
      by_time slot is (inr h) = Contains-append_left slots (slots_at time later values) slot (are.complete slot is (late slot is.offered (ap (λ (s : Slot). s.leave) is.offered.is)))
        where
          next : (a b c : ℤ) → a <ℤ b → b ≡ c → (a +ℤ pos 1) ≤ℤ c
          next a b c h e = omega (arith, ints, h, e)

          late : (s : Slot) (is : IsOffered T W s) → slot.leave ≡ leaving_time T is.origin is.first → end ≤ℤ slot.leave
          late s is e = subst (λ l. end ≤ℤ l) (sym e) (leaves_late is.origin is.first is.rest is.target is.journey (next time slot.leave (leaving_time T is.origin is.first) h e))

module _ (T : TimetableData) (W : WindowData) where
  -- after the window nothing is left
  pub none_after : AreFrom T W (W.last +ℤ pos 1) []
  none_after = record {
    best = All-nil (IsProfileSlot T W);
    from = All-nil (λ (s : Slot). (W.last +ℤ pos 1) ≤ℤ s.leave);
    complete = λ slot is from. absurd (clash slot.leave W.last is.not_after from);
    ordered = λ i j d before below. absurd (omega (arith, below));
  }
    where
      clash : (a b : ℤ) → a ≤ℤ b → (b +ℤ pos 1) ≤ℤ a → ⊥
      clash a b g h = omega (arith, ints, g, h)

  -- before the first leaving time nothing is left
  pub whole_profile : (end : ℤ) (slots : List Slot) → AreFrom T W end slots → AreLeavingTimes T W end [] → IsProfile T W slots
  whole_profile end slots are times = record {
    best = are.best;
    complete = λ slot is. by_time slot is (cases_ltℤ slot.leave end);
    ordered = are.ordered;
  }
    where
      none : (n : ℤ) → Contains [] n → ⊥
      none n (k, inside, is) = omega (arith, inside)

      leaves : (slot : Slot) (is : IsOffered T W slot) → IsLeavingTime T W.from slot.leave
      leaves slot is = subst (IsLeavingTime T W.from) (sym (ap (λ (s : Slot). s.leave) is.is)) (leaves_in_time T W.from W.to is.origin is.first is.rest is.target is.journey)

      by_time : (slot : Slot) → IsProfileSlot T W slot → (slot.leave <ℤ end) ⊎ (end ≤ℤ slot.leave) → Contains slots slot
      by_time slot is (inl h) = absurd (none slot.leave (times.complete slot.leave (record { leaves = leaves slot is.offered; not_before = is.not_before; not_after = is.not_after; before = h })))
      by_time slot is (inr h) = are.complete slot is h

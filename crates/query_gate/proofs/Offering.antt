-- The offers of a window: their legs, and their slots one after another.
use Rattle.std.proofs.Common.{◌≡◌, ◌∙◌, ℕ, suc, List, [], ◌∷◌, ◌++◌, length, map, refl, sym, ap, arith, ℤ}
use Rattle.std.specs.Prelude.{All, filter}
use Rattle.std.proofs.lemmas.List.{map-append}
use Rattle.std.proofs.lemmas.List.Elements.{All-cons, All-head, All-nil, All-tail, filter-append}
use Rattle.tb_base.specs.declared.query.Leg.{Leg}
use Rattle.tb_base.specs.declared.query.Slot.{Slot}
use Rattle.tb_base.specs.declared.query.Value.{Value}
use Rattle.tb_base.specs.declared.transfer.Hop.{Hop}
use Rattle.tb_base.specs.TimetableData.{TimetableData}
use Rattle.tb_base.specs.Journeys.{Ride, IsJourney, LeavesNoEarlier}
use Rattle.tb_base.specs.BestValues.{QueryData, value_of}
use Rattle.tb_base.specs.JourneyRules.{SpellSlot, SpellValue, legs_of}
use Rattle.tb_base.specs.Profiles.{OfferData, WindowData, IsProfileSlot, slot_of}
use Rattle.tb_laws.proofs.ProfileLaws.{slot_has_ride}
use Rattle.segment_queue.specs.Traced.{LegsFollow}
use Rattle.segment_queue.specs.declared.desk.Hit.{Hit}
use Rattle.segment_queue.specs.declared.desk.Segment.{Segment}
use Rattle.journey_unfold.specs.Unfolded.{SpellHit}
use Rattle.query_gate.specs.Slots.{IsShown, is_kept, slot_at, slots_at}
use Rattle.tb_base.proofs.NumberFacts.{≤ℤ-same_back}

-- the slots of values in a row
pub slots_at-append : (time : ℤ) (later us vs : List Value) → slots_at time later (us ++ vs) ≡ slots_at time later us ++ slots_at time later vs
slots_at-append time later us vs = ap (map (slot_at time)) (filter-append (is_kept later) us vs) ∙ map-append (slot_at time) (filter (is_kept later) us) (filter (is_kept later) vs)

-- the journey of a hit, shown with the slot of its value
pub hit_shown : (T : TimetableData) (Q : QueryData) (segments : List Segment) (h : Hit) (legs : List Leg) (hops : ℕ → ℕ → List Hop) → SpellHit T Q segments h legs → LegsFollow hops legs →
    IsShown T Q.from Q.to hops (record { slot = record { leave = Q.leave; arrive = h.value.arrive; rides = h.value.rides }; legs = legs })
hit_shown T Q segments h legs hops s follows = record { spelt = record { by = s.by; has = s.has; spelt = s.spelt }; follows = follows }

-- legs of a journey that leaves no earlier than a slot of the profile and has its value spell one
-- with the slot
spell_slot : (T : TimetableData) (W : WindowData) (slot : Slot) (legs : List Leg) → IsProfileSlot T W slot → SpellValue T (record { from = W.from; to = W.to; leave = slot.leave }) legs (record { arrive = slot.arrive; rides = slot.rides }) → SpellSlot T W legs slot
spell_slot T W slot legs is spelt = by_rides spelt.by.origin spelt.by.rides spelt.by.target spelt.has.journey spelt.has.leaves spelt.has.value spelt.spelt
  where
    by_rides : (o : ℕ) (rides : List Ride) (q : ℕ) → IsJourney T W.from W.to (record { origin = o; rides = rides; target = q }) → LeavesNoEarlier T slot.leave o rides →
        ◌≡◌ {A = Value} (record { arrive = slot.arrive; rides = slot.rides }) (value_of T slot.leave (record { origin = o; rides = rides; target = q })) → legs ≡ legs_of T o rides q → SpellSlot T W legs slot
    by_rides o [] q journey leaves value spelt = absurd (let e : slot.rides ≡ 0 = ap (λ (v : Value). v.rides) value in let some_ride = slot_has_ride T W slot is in omega (arith, e, some_ride))
    by_rides o (r ∷ rest) q journey leaves value spelt =
        let arrive = ap (λ (v : Value). v.arrive) value in
        let rides : slot.rides ≡ suc (length rest) = ap (λ (v : Value). v.rides) value in
        let same : slot_of T o r rest q ≡ slot = is.undominated (slot_of T o r rest q) (record { origin = o; first = r; rest = rest; target = q; journey = journey; is = refl })
        (record { leave = leaves; arrive = ≤ℤ-same_back _ _ arrive; rides = omega (arith, rides) }) in
        record {
          by = record { origin = o; first = r; rest = rest; target = q; journey = journey; is = sym same };
          spelt = spelt;
        }

module _ (T : TimetableData) (W : WindowData) (hops : ℕ → ℕ → List Hop) where
  pub all_spell : (offers : List OfferData) → All (IsProfileSlot T W) (map OfferData.slot offers) → All (IsShown T W.from W.to hops) offers → All (λ o. SpellSlot T W (OfferData.legs o) (OfferData.slot o)) offers
  all_spell [] slots shown = All-nil (λ o. SpellSlot T W (OfferData.legs o) (OfferData.slot o))
  all_spell (o ∷ os) slots shown =
      All-cons (λ o. SpellSlot T W (OfferData.legs o) (OfferData.slot o)) o os
      (spell_slot T W o.slot o.legs (All-head (IsProfileSlot T W) o.slot (map OfferData.slot os) slots) (All-head (IsShown T W.from W.to hops) o os shown).spelt)
      (all_spell os (All-tail (IsProfileSlot T W) o.slot (map OfferData.slot os) slots) (All-tail (IsShown T W.from W.to hops) o os shown))

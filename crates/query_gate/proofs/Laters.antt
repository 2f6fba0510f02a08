-- The values of a sweep, and none past the last second, are those of all later journeys.
use Rattle.std.proofs.Common.{◌≡◌, ℕ, ◌<◌, List, [], ◌∷◌, length, map, get_or, ap, subst, arith, Option, ℤ, pos, negsuc, ◌-ℤ◌, ◌≤ℤ◌, ◌<ℤ◌}
use Rattle.std.specs.Prelude.{AllPairs}
use Rattle.std.proofs.lemmas.Int.{ints}
use Rattle.std.proofs.lemmas.List.Elements.{All-map, All-nil, All-weaker}
use Rattle.tb_base.specs.Network.{NetData}
use Rattle.tb_base.specs.declared.query.Value.{Value}
use Rattle.tb_base.specs.TimetableData.{TimetableData, events_of, no_event, MayBoard, no_trip}
use Rattle.tb_base.specs.Journeys.{Ride, Leads, LeavesNoEarlier, boarding_time}
use Rattle.tb_base.specs.BestValues.{QueryData, IsAttained, IsStep, value_of}
use Rattle.tb_base.specs.Soundness.{IsSound, IsSoundEvent}
use Rattle.tb_base.proofs.Events.{MayBoard-inside}
use Rattle.tb_base.specs.Sufficiency.{AreSufficient}
use Rattle.tb_laws.specs.Pruning.{IsLate}
use Rattle.segment_queue.specs.declared.desk.Hit.{Hit}
use Rattle.segment_queue.specs.Queue.{DeskData}
use Rattle.segment_queue.specs.Traced.{IsTraced, IsTracedHit}
use Rattle.earliest_query.specs.Sweeping.{IsSweptSoFar, IsSweptTo, SweepData, values_with}
use Rattle.earliest_query.proofs.Reaching.{hit_attained}
use Rattle.earliest_query.proofs.SweptSearch.{swept_cover}
use Rattle.query_gate.specs.Leaving.{DepartsAt}
use Rattle.query_gate.specs.Slots.{AreFound, AreLater}
use Rattle.query_gate.proofs.Rest.{pairs-map}
use Rattle.tb_base.proofs.NumberFacts.{≤ℤ-trans}

-- at a time, a sweep has come down to it
pub swept_so_far : (N : NetData) (Q : QueryData) (D : DeskData) (S : SweepData) → IsSweptTo N Q D S.levels S.values → IsSweptSoFar N Q D S
swept_so_far N Q D S swept = record { queue = swept.queue; gone_on = swept.gone_on }

-- the values of the hits of a sweep at a time
pub hits_found : (T : TimetableData) (Q : QueryData) (D : DeskData) (later : List Value) → IsTraced T Q D → AllPairs (λ (h k : Hit). IsStep h.value k.value) D.hits →
    ((w : Value) → IsAttained T Q w → IsLate (values_with D.hits later) w.arrive w.rides) → AreFound T Q later (map (λ (h : Hit). h.value) D.hits)
hits_found T Q D later traced stairs cover = record {
  attained = All-map (IsAttained T Q) (λ (h : Hit). h.value) D.hits (All-weaker (IsTracedHit T Q D.segments) (λ (h : Hit). IsAttained T Q h.value) (hit_attained T Q D.segments traced.entered) D.hits traced.hits);
  stairs = pairs-map (λ (h k : Hit). IsStep h.value k.value) IsStep (λ (h : Hit). h.value) (λ h k step. step) D.hits stairs;
  cover = cover;
}

-- the values of a sweep stand for all
pub later_from_swept : (N : NetData) → IsSound N.table → (Q : QueryData) (D : DeskData) (levels : List (List (Option ℕ))) (values : List Value) → AreSufficient N.table N.hops → IsSweptTo N Q D levels values → AreLater N.table Q values
later_from_swept N sound Q D levels values sufficient swept = record {
  attained = swept.gone_on.attained;
  cover = λ w attained some_ride. swept_cover N Q D levels values swept sound sufficient w attained;
}

module _ (T : TimetableData) (sound : IsSound T) where
  -- where one may board, one departs within the limits
  sound_event : (t b : ℕ) → MayBoard T t b → IsSoundEvent (length T.stops) (get_or (events_of T t) b no_event)
  sound_event t b boards =
      let inside = MayBoard-inside T t b boards in
      (sound.trip t no_trip inside.0).events b no_event inside.1

  pub departs_within : (stop : ℕ) (time : ℤ) → DepartsAt T stop time → (negsuc 86399 ≤ℤ time) × (time ≤ℤ pos 359999)
  departs_within stop time d =
      let e = sound_event d.trip d.board d.boards in (
        subst (λ x. negsuc 86399 ≤ℤ x) d.departs (≤ℤ-trans (negsuc 86399) _ _ e.earliest e.waits),
        subst (λ x. x ≤ℤ pos 359999) d.departs e.latest,
      )

  -- nothing departs after the last second
  pub none_later : (Q : QueryData) → pos 359999 <ℤ Q.leave → AreLater T Q []
  none_later Q past = record {
    attained = All-nil (IsAttained T Q);
    cover = λ w (j, has) some_ride. absurd (by_rides w some_ride j.origin j.rides j.target has.journey.leads has.leaves has.value);
  }
    where
      late : (a d : ℤ) (s : ℕ) → pos 359999 <ℤ a → a ≤ℤ (d -ℤ pos s) → d ≤ℤ pos 359999 → ⊥
      late a d s g h k = omega (arith, ints, g, h, k)

      by_rides : (w : Value) → 0 < w.rides → (o : ℕ) (rides : List Ride) (q : ℕ) → Leads T o rides q → LeavesNoEarlier T Q.leave o rides → w ≡ value_of T Q.leave (record { origin = o; rides = rides; target = q }) → ⊥
      by_rides w some_ride o [] q leads leaves value = let e : w.rides ≡ 0 = ap (λ (v : Value). v.rides) value in omega (arith, e, some_ride)
      by_rides w some_ride o (r ∷ rest) q leads leaves value = late Q.leave (boarding_time T r) _ past leaves (sound_event r.trip r.board leads.1.boards).latest

-- Between a timetable and its mirror: events, walks and changes.
use Rattle.std.proofs.Common.{◌≡◌, ◌≢◌, ◌∙◌, sym, ap, subst, ℕ, ◌-◌, ◌<◌, ◌==◌, inl, inr, true, false, List, length, get_or, Option, None, arith, ℤ}
use Rattle.std.proofs.lemmas.Bool.{cases_Bool}
use Rattle.std.proofs.lemmas.Bool.Decides.{nat_tests}
use Rattle.std.proofs.lemmas.Int.{ints}
use Rattle.std.proofs.Math.ListN.{get_or-map}
use Rattle.tb_base.specs.declared.table.Event.{Event}
use Rattle.tb_base.specs.TimetableData.{TimetableData, TripData, arrival_at, departure_at, event_at, events_of, no_event, stop_at, no_trip}
use Rattle.tb_base.specs.Walking.{change, walk}
use Rattle.tb_base.proofs.Walks.{change-other, change-same, walk-other, walk-same}
use Rattle.edition_store.specs.Mirror.{IsMirror, LeadBack, mirror_event, mirror_events, mirror_time, mirror_trip}
use Rattle.edition_store.specs.TurnedJourneys.{index_back}
use Rattle.edition_store.proofs.Trips.{event_back, length-mirror_events}

pub time_back : (x : ℤ) → mirror_time (mirror_time x) ≡ x
time_back x = omega (arith, ints)

-- two stops are one, or they differ
pub by_stops : {P : Type 0} (p q : ℕ) → (p ≡ q → P) → (p ≢ q → P) → P
by_stops p q one two = elim (cases_Bool (p == q)) [
  | inl t ↦ one (grind (arith, nat_tests, t))
  | inr t ↦ two (λ e. let u : (p == q) ≡ true = grind (arith, nat_tests, e) in let c : false ≡ true = sym t ∙ u in cc)
]

module _ (T M : TimetableData) where
  pub change_back : LeadBack T.footpaths M.footpaths → (p q : ℕ) → change M p q ≡ change T q p
  change_back back p q =
      by_stops p q (λ same. subst (λ k. change M p k ≡ change T k p) same (change-same M p ∙ (ap (λ (cs : List (Option ℕ)). get_or cs p None) back.change ∙ sym (change-same T p))))
      (λ other. change-other M p q other ∙ (back.secs p q ∙ sym (change-other T q p (λ e. other (sym e)))))

  pub walk_back : LeadBack T.footpaths M.footpaths → (p q : ℕ) → walk M p q ≡ walk T q p
  walk_back back p q =
      by_stops p q (λ same. subst (λ k. walk M p k ≡ walk T k p) same (walk-same M p ∙ sym (walk-same T p)))
      (λ other. walk-other M p q other ∙ (back.secs p q ∙ sym (walk-other T q p (λ e. other (sym e)))))

  module _ (m : IsMirror T M) where
    pub events_back : (t : ℕ) → events_of M t ≡ mirror_events (events_of T t)
    events_back t =
        ap (λ (ts : List TripData). TripData.events (get_or ts t no_trip)) m.trips
        ∙ ap (λ (x : TripData). x.events) (get_or-map mirror_trip T.trips t no_trip)

    pub length_back : (t : ℕ) → length (events_of M t) ≡ length (events_of T t)
    length_back t = ap length (events_back t) ∙ length-mirror_events (events_of T t)

    pub event_at_back : (t i : ℕ) → i < length (events_of T t) → event_at M t (index_back T t i) ≡ mirror_event (event_at T t i)
    event_at_back t i inside =
        let k : length (events_of T t) - 1 - (length (events_of T t) - 1 - i) ≡ i = omega (arith, inside) in
        ap (λ (es : List Event). get_or es (index_back T t i) no_event) (events_back t)
        ∙ (event_back (events_of T t) (index_back T t i) no_event no_event (omega (arith, inside)) ∙ ap (λ j. mirror_event (event_at T t j)) k)

    pub stop_back : (t i : ℕ) → i < length (events_of T t) → stop_at M t (index_back T t i) ≡ stop_at T t i
    stop_back t i inside = ap (λ (e : Event). e.stop) (event_at_back t i inside)

    pub arrival_back : (t i : ℕ) → i < length (events_of T t) → arrival_at M t (index_back T t i) ≡ mirror_time (departure_at T t i)
    arrival_back t i inside = ap (λ (e : Event). e.arr) (event_at_back t i inside)

    pub departure_back : (t i : ℕ) → i < length (events_of T t) → departure_at M t (index_back T t i) ≡ mirror_time (arrival_at T t i)
    departure_back t i inside = ap (λ (e : Event). e.dep) (event_at_back t i inside)

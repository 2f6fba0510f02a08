-- What the search finds in the mirror are the latest departures.
use Rattle.std.proofs.Common.{◌≡◌, sym, ap, subst, refl, ℕ, ◌<◌, List, [], ◌∷◌, length, get_or, map, None, Some, Option, Result, Ok, Err, arith, ℤ, pos, negsuc, ◌≤ℤ◌}
use Rattle.std.specs.Prelude.{All, IfOk}
use Rattle.std.proofs.lemmas.Int.{ints}
use Rattle.std.proofs.lemmas.List.Elements.{All-cons, All-map}
use Rattle.tb_base.specs.BestValues.{AreBestValues, ChoiceData, HasValue, QueryData, value_of}
use Rattle.tb_base.specs.JourneyRules.{HasNumbers, KeepAllRules, SpellJourney, SpellValue}
use Rattle.tb_base.specs.Journeys.{IsRide, LeadsOn, Leads, LeavesNoEarlier, Ride, arrival, arrival_after}
use Rattle.tb_base.specs.Soundness.{IsSound}
use Rattle.tb_base.specs.TimetableData.{TimetableData, arrival_at, no_trip}
use Rattle.tb_base.specs.declared.query.Leg.{Leg}
use Rattle.tb_base.specs.declared.query.Value.{Value}
use Rattle.tb_base.specs.declared.rule.Rule.TheVariants.{BadNumber}
use Rattle.tb_base.proofs.Events.{MayAlight-inside}
use Rattle.tb_laws.proofs.RuleLaws.{rules_from_journey}
use Rattle.edition_store.specs.Departures.{AreLatest, ArrivalData, LeavingData, SpellLeaving, departure, leaving_from, mirror_query}
use Rattle.edition_store.specs.Mirror.{IsMirror, mirror_time}
use Rattle.edition_store.proofs.Latest.{are_latest, spell_leaving}
use Rattle.arrive_by.specs.Latest.{AreLatestDepartures, DepartureData, departure_from, pair_of}

-- an event is no earlier than a day before the service day's zero
event_bound : (T : TimetableData) → IsSound T → (r : Ride) → IsRide T r → negsuc 86399 ≤ℤ arrival_at T r.trip r.alight
event_bound T sound r h =
    let inside = MayAlight-inside T r.trip r.alight h.alights in
    ((sound.trip r.trip no_trip inside.0).events r.alight _ inside.1).earliest

after_bound : (T : TimetableData) (r : Ride) (rest : List Ride) (target : ℕ) → IsSound T → IsRide T r → LeadsOn T r rest target → negsuc 86399 ≤ℤ arrival_after T r rest target
after_bound T r [] target sound h on =
    let bound = event_bound T sound r h in
    omega (arith, ints, bound)
after_bound T r (s ∷ rest) target sound h on = after_bound T s rest target sound on.1 on.2

arrival_bound : (T : TimetableData) (leave : ℤ) (origin target : ℕ) (rides : List Ride) → IsSound T → pos 0 ≤ℤ leave → Leads T origin rides target → negsuc 86399 ≤ℤ arrival T leave origin rides target
arrival_bound T leave origin target [] sound some h = omega (arith, ints, some)
arrival_bound T leave origin target (r ∷ rest) sound some h = after_bound T r rest target sound h.1 h.2

pub value_bound : (T : TimetableData) (Q : QueryData) → IsSound T → pos 0 ≤ℤ Q.leave → (legs : List Leg) (v : Value) → SpellValue T Q legs v → negsuc 86399 ≤ℤ v.arrive
value_bound T Q sound some legs v h =
    subst (λ (w : Value). negsuc 86399 ≤ℤ w.arrive) (sym h.has.value) (arrival_bound T Q.leave h.by.origin h.by.target h.by.rides sound some h.has.journey.leads)

-- legs that keep all rules have numbers that exist
numbers_kept : (T : TimetableData) (Q : QueryData) (previous earlier : Option Leg) (legs : List Leg) → KeepAllRules T Q previous earlier legs → All (HasNumbers T) legs
numbers_kept T Q previous earlier [] keep = λ k d below. absurd (omega (arith, below))
numbers_kept T Q previous earlier (leg ∷ legs) keep = All-cons (HasNumbers T) leg legs (keep.0 BadNumber) (numbers_kept T Q (Some leg) previous legs keep.1)

pub numbers_spelt : (T : TimetableData) (Q : QueryData) → IsSound T → All (λ p. p < length T.stops) Q.from → (legs : List Leg) → SpellJourney T Q legs → All (HasNumbers T) legs
numbers_spelt T Q sound inside legs spelt = numbers_kept T Q None None legs (rules_from_journey T Q sound legs inside spelt).0

-- a journey leaves no earlier than it leaves
leaves_itself : (T : TimetableData) (by : ℤ) (origin target : ℕ) (rides : List Ride) → LeavesNoEarlier T (departure T by origin rides target) origin rides
leaves_itself T by origin target [] = tt
leaves_itself T by origin target (r ∷ rest) = omega (arith, ints)

pub numbers_leaving : (T : TimetableData) (A : ArrivalData) → IsSound T → All (λ p. p < length T.stops) A.from → (legs : List Leg) (d : LeavingData) → SpellLeaving T A legs d → All (HasNumbers T) legs
numbers_leaving T A sound inside legs d h =
    let leave : ℤ = departure T A.by h.by.origin h.by.rides h.by.target in
    let Q : QueryData = record { from = A.from; to = A.to; leave = leave } in
    let has : HasValue T Q h.by (value_of T leave h.by) = record { journey = h.has.journey; leaves = leaves_itself T A.by h.by.origin h.by.target h.by.rides; value = refl } in
    numbers_spelt T Q sound inside legs (value_of T leave h.by, record { by = h.by; has = has; spelt = h.spelt })

pairs_are : (M : TimetableData) (cs : List ChoiceData) → map pair_of (map (departure_from M) cs) ≡ map leaving_from (map ChoiceData.value cs)
pairs_are M [] = refl
pairs_are M (c ∷ cs) = ap (λ ds. leaving_from c.value ∷ ds) (pairs_are M cs)

module _ (T M : TimetableData) (m : IsMirror T M) (A : ArrivalData) where
  spelt : (cs : List ChoiceData) → All (λ c. SpellValue M (mirror_query A) (ChoiceData.legs c) (ChoiceData.value c)) cs → All (λ d. SpellLeaving T A (DepartureData.legs d) (pair_of d)) (map (departure_from M) cs)
  spelt cs h =
      All-map (λ d. SpellLeaving T A (DepartureData.legs d) (pair_of d)) (departure_from M) cs (λ i d inside.
      spell_leaving T M m A (ChoiceData.legs (get_or cs i d)) (ChoiceData.value (get_or cs i d)) (h i d inside))

  pub latest_are : (Q : QueryData) → Q ≡ mirror_query A → (cs : List ChoiceData) → AreBestValues M Q (map ChoiceData.value cs) → All (λ c. SpellValue M Q (ChoiceData.legs c) (ChoiceData.value c)) cs
      → AreLatestDepartures T A (map (departure_from M) cs)
  latest_are Q is cs best journeys = record {
    pairs = subst (AreLatest T A) (sym (pairs_are M cs)) (are_latest T M m A (map ChoiceData.value cs) (subst (λ q. AreBestValues M q (map ChoiceData.value cs)) is best));
    journeys = spelt cs (subst (λ q. All (λ c. SpellValue M q (ChoiceData.legs c) (ChoiceData.value c)) cs) is journeys);
  }

-- what has legs that spell journeys has their numbers
pub numbers_are : (T : TimetableData) (A : ArrivalData) → IsSound T → All (λ p. p < length T.stops) A.from → (ds : List DepartureData) → AreLatestDepartures T A ds → All (λ d. All (HasNumbers T) (DepartureData.legs d)) ds
numbers_are T A sound inside ds h = λ i d below. numbers_leaving T A sound inside (DepartureData.legs (get_or ds i d)) (pair_of (get_or ds i d)) (h.journeys i d below)

-- what comes out as some list has what that list has
pub if_ok : {A E X : Type 0} (P : X → Type 0) (of : A → X) (x : X) (r : Result A E) → IfOk r (λ a. of a ≡ x) → P x → IfOk r (λ a. P (of a))
if_ok P of x (Ok a) is h = subst P (sym is) h
if_ok P of x (Err e) is h = tt

-- choices in the mirror have numbers that exist, and arrive no earlier than an event may
pub choices_numbers : (M : TimetableData) (A : ArrivalData) (Q : QueryData) → IsSound M → Q ≡ mirror_query A → All (λ p. p < length M.stops) A.to → (cs ds : List ChoiceData) → ds ≡ cs
    → All (λ c. SpellValue M Q (ChoiceData.legs c) (ChoiceData.value c)) cs → All (λ c. All (HasNumbers M) (ChoiceData.legs c)) ds
choices_numbers M A Q sound is inside cs ds same spelt =
    subst (All (λ c. All (HasNumbers M) (ChoiceData.legs c))) (sym same)
    (λ i d below. numbers_spelt M Q sound (subst (λ (q : QueryData). All (λ p. p < length M.stops) q.from) (sym is) inside) (ChoiceData.legs (get_or cs i d)) (ChoiceData.value (get_or cs i d), spelt i d below))

pub choices_times : (M : TimetableData) (A : ArrivalData) (Q : QueryData) → IsSound M → Q ≡ mirror_query A → A.by ≤ℤ pos 273599 → (cs ds : List ChoiceData) → ds ≡ cs
    → All (λ c. SpellValue M Q (ChoiceData.legs c) (ChoiceData.value c)) cs → All (λ c. negsuc 86399 ≤ℤ (ChoiceData.value c).arrive) ds
choices_times M A Q sound is limit cs ds same spelt =
    let some : pos 0 ≤ℤ mirror_time A.by = omega (arith, ints, limit) in
    subst (All (λ c. negsuc 86399 ≤ℤ (ChoiceData.value c).arrive)) (sym same)
    (λ i d below. value_bound M Q sound (subst (λ (q : QueryData). pos 0 ≤ℤ q.leave) (sym is) some) (ChoiceData.legs (get_or cs i d)) (ChoiceData.value (get_or cs i d)) (spelt i d below))

-- the departures that are made of them are the latest
pub departures_latest : (T M : TimetableData) → IsMirror T M → (A : ArrivalData) (Q : QueryData) → Q ≡ mirror_query A → (cs ds : List ChoiceData) → ds ≡ cs → AreBestValues M Q (map ChoiceData.value cs)
    → All (λ c. SpellValue M Q (ChoiceData.legs c) (ChoiceData.value c)) cs → AreLatestDepartures T A (map (departure_from M) ds)
departures_latest T M m A Q is cs ds same best spelt =
    subst (λ es. AreLatestDepartures T A (map (departure_from M) es)) (sym same) (latest_are T M m A Q is cs best spelt)

-- The best values of the mirror are the latest departures.
use Rattle.std.proofs.Common.{◌≡◌, ◌∙◌, sym, ap, subst, ◌<◌, List, [], length, get_or, map, arith}
use Rattle.std.specs.Prelude.{Contains}
use Rattle.std.proofs.lemmas.Int.{ints}
use Rattle.std.proofs.lemmas.List.{get_or-map, length-map}
use Rattle.std.proofs.lemmas.List.Elements.{All-map}
use Rattle.tb_base.specs.declared.query.Leg.{Leg}
use Rattle.tb_base.specs.declared.query.Value.{Value}
use Rattle.tb_base.specs.BestValues.{AreBestValues, HasValue, IsAttained, IsBest}
use Rattle.tb_base.specs.JourneyRules.{SpellValue}
use Rattle.tb_base.specs.Journeys.{Journey, Ride}
use Rattle.tb_base.specs.TimetableData.{TimetableData}
use Rattle.tb_base.proofs.Members.{Member-map}
use Rattle.tb_base.proofs.Ordered.{Contains-from_Member, Member-from_Contains}
use Rattle.edition_store.specs.Departures.{AreLatest, ArrivalData, ArrivesNoLater, HasLeaving, IsLatest, IsPossible, LeavingData, SpellLeaving, departure, leaving_from, mirror_query, value_from}
use Rattle.edition_store.specs.Mirror.{IsMirror, mirror_time}
use Rattle.edition_store.specs.TurnedJourneys.{turn_journey, turn_legs, turn_rides}
use Rattle.edition_store.proofs.Back.{time_back}
use Rattle.edition_store.proofs.Legs.{legs_turned}
use Rattle.edition_store.proofs.Turning.{arrival_turned, arrives_turned, departure_turned, leads_turned, leaves_turned, length-turn_before}
use Rattle.edition_store.proofs.Unique.{mirror_back}

there_and_back : (d : LeavingData) → leaving_from (value_from d) ≡ d
there_and_back d = λ i. record { leave = time_back d.leave i; rides = d.rides }

back_and_there : (v : Value) → value_from (leaving_from v) ≡ v
back_and_there v = λ i. record { arrive = time_back v.arrive i; rides = v.rides }

same_length : (T : TimetableData) (rides : List Ride) → length (turn_rides T rides) ≡ length rides
same_length T rides = omega (arith, length-turn_before T rides [])

module _ (T M : TimetableData) (m : IsMirror T M) (A : ArrivalData) where
  pub has_value : (j : Journey) (d : LeavingData) → HasLeaving T A j d → HasValue M (mirror_query A) (turn_journey T j) (value_from d)
  has_value j d h = record {
    journey = record { origin = h.journey.target; target = h.journey.origin; leads = leads_turned T M m j.origin j.target j.rides h.journey.leads };
    leaves = leaves_turned T M m A.by j.origin j.target j.rides h.journey.leads h.arrives;
    value = ap value_from h.leaving ∙ (λ i. record {
      arrive = sym (arrival_turned T M m A.by j.origin j.target j.rides h.journey.leads) i;
      rides = sym (same_length T j.rides) i;
    });
  }

  pub has_leaving : (j : Journey) (v : Value) → HasValue M (mirror_query A) j v → HasLeaving T A (turn_journey M j) (leaving_from v)
  has_leaving j v h =
      let n = mirror_back T M m in
      let leads = h.journey.leads in
      record {
        journey = record { origin = h.journey.target; target = h.journey.origin; leads = leads_turned M T n j.origin j.target j.rides leads };
        arrives = subst (λ by. ArrivesNoLater T by (turn_rides M j.rides) j.origin) (time_back A.by) (arrives_turned M T n (mirror_time A.by) j.origin j.target j.rides leads h.leaves);
        leaving = ap leaving_from h.value ∙ (λ i. record {
          leave = (sym (departure_turned M T n (mirror_time A.by) j.origin j.target j.rides leads) ∙ ap (λ by. departure T by j.target (turn_rides M j.rides) j.origin) (time_back A.by)) i;
          rides = sym (same_length M j.rides) i;
        });
      }

  attained : (d : LeavingData) → IsPossible T A d → IsAttained M (mirror_query A) (value_from d)
  attained d h = (turn_journey T h.0, has_value h.0 d h.1)

  possible : (v : Value) → IsAttained M (mirror_query A) v → IsPossible T A (leaving_from v)
  possible v h = (turn_journey M h.0, has_leaving h.0 v h.1)

  latest : (v : Value) → IsBest M (mirror_query A) v → IsLatest T A (leaving_from v)
  latest v best = record {
    possible = possible v best.attained;
    undominated = λ e h no_worse.
        let same : value_from e ≡ v = best.undominated (value_from e) (attained e h) (omega (arith, ints, no_worse.0), no_worse.1) in
        sym (there_and_back e) ∙ ap leaving_from same;
  }

  best : (d : LeavingData) → IsLatest T A d → IsBest M (mirror_query A) (value_from d)
  best d last = record {
    attained = attained d last.possible;
    undominated = λ w h no_worse.
        let same : leaving_from w ≡ d = last.undominated (leaving_from w) (possible w h) (omega (arith, ints, no_worse.0), no_worse.1) in
        sym (back_and_there w) ∙ ap value_from same;
  }

  pub are_latest : (vs : List Value) → AreBestValues M (mirror_query A) vs → AreLatest T A (map leaving_from vs)
  are_latest vs h = record {
    latest = All-map (IsLatest T A) leaving_from vs (λ i d inside. latest (get_or vs i d) (h.best i d inside));
    complete = λ d last.
        subst (Contains (map leaving_from vs)) (there_and_back d)
        (Contains-from_Member (leaving_from (value_from d)) (map leaving_from vs) (Member-map leaving_from (value_from d) vs (Member-from_Contains (value_from d) vs (h.complete (value_from d) (best d last)))));
    ordered = λ i j d before inside.
        let within : j < length vs = omega (arith, inside, length-map vs leaving_from) in
        let from : get_or (map leaving_from vs) i d ≡ leaving_from (get_or vs i (value_from d)) = get_or-map leaving_from vs i (value_from d) d (omega (arith, before, within)) in
        let to : get_or (map leaving_from vs) j d ≡ leaving_from (get_or vs j (value_from d)) = get_or-map leaving_from vs j (value_from d) d within in
        let order : (get_or vs i (value_from d)).rides < (get_or vs j (value_from d)).rides = h.ordered i j (value_from d) before within in
        rw (from, to) order;
  }

  -- legs turned round
  pub spell_leaving : (legs : List Leg) (v : Value) → SpellValue M (mirror_query A) legs v → SpellLeaving T A (turn_legs M legs) (leaving_from v)
  spell_leaving legs v h = record {
    by = turn_journey M h.by;
    has = has_leaving h.by v h.has;
    spelt = ap (turn_legs M) h.spelt ∙ legs_turned M T (mirror_back T M m) h.by.origin h.by.target h.by.rides h.has.journey.leads;
  }

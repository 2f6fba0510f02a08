-- A journey stays one, with its value, in a timetable that has all that its own has.
use Rattle.std.proofs.Common.{◌≡◌, ◌∙◌, sym, ap, refl, subst, ℕ, suc, ◌<◌, List, [], ◌∷◌, length, get_or, Option, Some}
use Rattle.std.specs.Prelude.{◌==◌, ℤ, pos, ◌+ℤ◌, ◌-ℤ◌, ◌≤ℤ◌, IsSome, IsSomeAnd, IsTrue, unwrap_or, Contains, if◌then◌else◌}
use Rattle.std.proofs.lemmas.List.{get_or_default}
use Rattle.tb_base.specs.declared.query.Value.{Value}
use Rattle.tb_base.specs.declared.table.Event.{Event}
use Rattle.tb_base.specs.BestValues.{AreBestValues, IsAttained, IsNoWorse, QueryData}
use Rattle.tb_base.specs.Journeys.{CanChange, IsRide, Journey, Leads, LeadsOn, LeavesNoEarlier, Ride, alighting_stop, alighting_time, arrival, arrival_after, boarding_stop, boarding_time, leaving_time}
use Rattle.tb_base.specs.Soundness.{IsSound}
use Rattle.tb_base.specs.TimetableData.{TimetableData, TripData, event_at, events_of, no_event, no_trip}
use Rattle.tb_base.specs.Walking.{change, change_between, footpath_secs, walk}
use Rattle.tb_base.specs.Wider.{HasAllOf}
use Rattle.tb_base.proofs.Events.{MayBoard-inside}
use Rattle.tb_laws.proofs.CoverLaws.{best_values_contain}

module _ (T U : TimetableData) (wide : HasAllOf U T) where
  -- the same ride in both, maybe on a trip with another number
  record IsSameRide (r s : Ride) : Type 0 where
    board : s.board ≡ r.board
    alight : s.alight ≡ r.alight
    events : events_of U s.trip ≡ events_of T r.trip

  same_ride : (r : Ride) → IsRide T r → (s : Ride) × IsSameRide r s
  same_ride r is =
      let below = (MayBoard-inside T r.trip r.board is.boards).0 in
      let there = wide.trips r.trip no_trip below in
      let at : get_or U.trips there.0 no_trip ≡ get_or T.trips r.trip no_trip = get_or_default U.trips there.0 no_trip (get_or T.trips r.trip no_trip) there.1 ∙ there.2 in
      (record { trip = there.0; board = r.board; alight = r.alight }, record { board = refl; alight = refl; events = ap TripData.events at })

  boards_at : (r s : Ride) → IsSameRide r s → event_at U s.trip s.board ≡ event_at T r.trip r.board
  boards_at r s same = λ i. get_or (same.events i) (same.board i) no_event

  alights_at : (r s : Ride) → IsSameRide r s → event_at U s.trip s.alight ≡ event_at T r.trip r.alight
  alights_at r s same = λ i. get_or (same.events i) (same.alight i) no_event

  stays_ride : (r s : Ride) → IsSameRide r s → IsRide T r → IsRide U s
  stays_ride r s same is = record {
    onward = let onward = is.onward in rw (same.board, same.alight) onward;
    boards = subst (λ (e : Event). IsTrue e.board) (sym (boards_at r s same)) is.boards;
    alights = subst (λ (e : Event). IsTrue e.alight) (sym (alights_at r s same)) is.alights;
  }

  same_walk : (p q : ℕ) → walk U p q ≡ walk T p q
  same_walk p q = λ i. if p == q then Some 0 else footpath_secs (sym wide.footpaths i) p q

  same_change : (p q : ℕ) → change U p q ≡ change T p q
  same_change p q = λ i. change_between (sym wide.footpaths i) p q

  same_boarding : (r s : Ride) → IsSameRide r s → boarding_stop U s ≡ boarding_stop T r
  same_boarding r s same = ap Event.stop (boards_at r s same)

  same_alighting : (r s : Ride) → IsSameRide r s → alighting_stop U s ≡ alighting_stop T r
  same_alighting r s same = ap Event.stop (alights_at r s same)

  left_at : (r s : Ride) → IsSameRide r s → alighting_time U s ≡ alighting_time T r
  left_at r s same = ap Event.arr (alights_at r s same)

  boarded_at : (r s : Ride) → IsSameRide r s → boarding_time U s ≡ boarding_time T r
  boarded_at r s same = ap Event.dep (boards_at r s same)

  stays_change : (r s q z : Ride) → IsSameRide r s → IsSameRide q z → CanChange T r q → CanChange U s z
  stays_change r s q z one other can =
      let changes : change U (alighting_stop U s) (boarding_stop U z) ≡ change T (alighting_stop T r) (boarding_stop T q) =
      (λ i. change U (same_alighting r s one i) (same_boarding q z other i)) ∙ same_change (alighting_stop T r) (boarding_stop T q) in
      subst (λ (c : Option ℕ). IsSomeAnd c (λ secs. (alighting_time U s +ℤ pos secs) ≤ℤ boarding_time U z)) (sym changes)
      (subst (λ (b : ℤ). IsSomeAnd (change T (alighting_stop T r) (boarding_stop T q)) (λ secs. (alighting_time U s +ℤ pos secs) ≤ℤ b)) (sym (boarded_at q z other))
      (subst (λ (a : ℤ). IsSomeAnd (change T (alighting_stop T r) (boarding_stop T q)) (λ secs. (a +ℤ pos secs) ≤ℤ boarding_time T q)) (sym (left_at r s one)) can))

  walk_from : (r s : Ride) → IsSameRide r s → (target : ℕ) → walk U (alighting_stop U s) target ≡ walk T (alighting_stop T r) target
  walk_from r s same target = (λ i. walk U (same_alighting r s same i) target) ∙ same_walk (alighting_stop T r) target

  walk_to : (r s : Ride) → IsSameRide r s → (origin : ℕ) → walk U origin (boarding_stop U s) ≡ walk T origin (boarding_stop T r)
  walk_to r s same origin = (λ i. walk U origin (same_boarding r s same i)) ∙ same_walk origin (boarding_stop T r)

  -- rides that lead on after one
  record LeadsAlike (r s : Ride) (rest : List Ride) (target : ℕ) : Type 0 where
    rides : List Ride
    leads : LeadsOn U s rides target
    many : length rides ≡ length rest
    arrives : arrival_after U s rides target ≡ arrival_after T r rest target

  leads_on : (r s : Ride) (rest : List Ride) (target : ℕ) → IsSameRide r s → LeadsOn T r rest target → LeadsAlike r s rest target
  leads_on r s [] target same leads =
      let foot = walk_from r s same target in
      record {
        rides = [];
        leads = subst IsSome (sym foot) leads;
        many = refl;
        arrives = λ i. left_at r s same i +ℤ pos (unwrap_or (foot i) 0);
      }
  leads_on r s (q ∷ rest) target same leads =
      let next = same_ride q leads.1 in
      let on = leads_on q next.0 rest target next.1 leads.2 in
      record {
        rides = next.0 ∷ on.rides;
        leads = (stays_change r s q next.0 same next.1 leads.0, stays_ride q next.0 next.1 leads.1, on.leads);
        many = ap suc on.many;
        arrives = on.arrives;
      }

  -- a value that is attained stays attained
  pub still_attained : (Q : QueryData) (v : Value) → IsAttained T Q v → IsAttained U Q v
  still_attained Q v (j, has) = by_rides j.rides has.journey.leads has.leaves has.value
    where
      by_rides : (rides : List Ride) → Leads T j.origin rides j.target → LeavesNoEarlier T Q.leave j.origin rides
          → v ≡ record { arrive = arrival T Q.leave j.origin rides j.target; rides = length rides } → IsAttained U Q v
      by_rides [] leads leaves value =
          let foot = same_walk j.origin j.target in (
            record { origin = j.origin; rides = []; target = j.target },
            record {
              journey = record { origin = has.journey.origin; target = has.journey.target; leads = subst IsSome (sym foot) leads };
              leaves = tt;
              value = value ∙ (λ i. record { arrive = Q.leave +ℤ pos (unwrap_or (sym foot i) 0); rides = 0 });
            },
          )
      by_rides (r ∷ rest) leads leaves value =
          let first = same_ride r leads.1 in
          let on = leads_on r first.0 rest j.target first.1 leads.2 in
          let foot = walk_to r first.0 first.1 j.origin in
          let leave : leaving_time U j.origin first.0 ≡ leaving_time T j.origin r = λ i. boarded_at r first.0 first.1 i -ℤ pos (unwrap_or (foot i) 0) in (
            record { origin = j.origin; rides = first.0 ∷ on.rides; target = j.target },
            record {
              journey = record {
                origin = has.journey.origin;
                target = has.journey.target;
                leads = (subst IsSome (sym foot) leads.0, stays_ride r first.0 first.1 leads.1, on.leads);
              };
              leaves = subst (λ (t : ℤ). Q.leave ≤ℤ t) (sym leave) leaves;
              value = value ∙ (λ i. record { arrive = sym on.arrives i; rides = suc (sym on.many i) });
            },
          )

-- so each value has a best one of the other timetable that is no worse
pub wider_no_worse : (T U : TimetableData) → IsSound U → HasAllOf U T → (Q : QueryData) (vs : List Value) → AreBestValues U Q vs → (v : Value) → IsAttained T Q v → (w : Value) × Contains vs w × IsNoWorse w v
wider_no_worse T U sound wide Q vs best v attained = best_values_contain U sound Q vs best v (still_attained T U wide Q v attained)

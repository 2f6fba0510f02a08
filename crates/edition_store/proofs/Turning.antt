-- Each journey, turned round, is a journey of the mirror, which leaves and arrives at the mirrored times.
use Rattle.std.proofs.Common.{◌≡◌, ◌∙◌, sym, ap, subst, refl, ℕ, ◌+◌, ◌<◌, List, [], ◌∷◌, length, Option, Some, None, arith, ℤ, pos, ◌+ℤ◌, ◌≤ℤ◌, IsTrue}
use Rattle.std.specs.Prelude.{IsSome, IsSomeAnd, unwrap_or}
use Rattle.std.proofs.lemmas.Int.{ints}
use Rattle.tb_base.specs.declared.table.Event.{Event}
use Rattle.tb_base.specs.Journeys.{CanChange, IsRide, Leads, LeadsOn, LeavesNoEarlier, Ride, alighting_stop, alighting_time, arrival, arrival_after, boarding_stop, boarding_time, walk_secs}
use Rattle.tb_base.specs.TimetableData.{TimetableData, events_of}
use Rattle.tb_base.specs.Walking.{change, walk}
use Rattle.tb_base.proofs.Events.{MayAlight-inside, MayBoard-inside}
use Rattle.edition_store.specs.Departures.{ArrivesNoLater, departure}
use Rattle.edition_store.specs.Mirror.{IsMirror, mirror_time}
use Rattle.edition_store.specs.TurnedJourneys.{turn_before, turn_ride, turn_rides}
use Rattle.edition_store.proofs.Back.{arrival_back, change_back, departure_back, event_at_back, stop_back, walk_back}

-- a change that is in time, seen from its end
change_in_time : (o p : Option ℕ) (a b c d : ℤ) → p ≡ o → c ≡ mirror_time b → d ≡ mirror_time a → IsSomeAnd o (λ s. (a +ℤ pos s) ≤ℤ b) → IsSomeAnd p (λ s. (c +ℤ pos s) ≤ℤ d)
change_in_time o p a b c d same from to h = subst (λ (q : Option ℕ). IsSomeAnd q (λ s. (c +ℤ pos s) ≤ℤ d)) (sym same) (seen o h)
  where
    seen : (q : Option ℕ) → IsSomeAnd q (λ s. (a +ℤ pos s) ≤ℤ b) → IsSomeAnd q (λ s. (c +ℤ pos s) ≤ℤ d)
    seen None k = k
    seen (Some s) k = omega (arith, ints, k, from, to)

pub length-turn_before : (T : TimetableData) (rides others : List Ride) → length (turn_before T rides others) ≡ length rides + length others
length-turn_before T [] others = omega arith
length-turn_before T (r ∷ rest) others = omega (arith, length-turn_before T rest (turn_ride T r ∷ others))

module _ (T M : TimetableData) (m : IsMirror T M) where
  board_inside : (r : Ride) → IsRide T r → r.board < length (events_of T r.trip)
  board_inside r h = (MayBoard-inside T r.trip r.board h.boards).1

  alight_inside : (r : Ride) → IsRide T r → r.alight < length (events_of T r.trip)
  alight_inside r h = (MayAlight-inside T r.trip r.alight h.alights).1

  -- where and when a ride begins and ends that is turned round
  pub boarding_stop_back : (r : Ride) → IsRide T r → boarding_stop M (turn_ride T r) ≡ alighting_stop T r
  boarding_stop_back r h = stop_back T M m r.trip r.alight (alight_inside r h)

  pub alighting_stop_back : (r : Ride) → IsRide T r → alighting_stop M (turn_ride T r) ≡ boarding_stop T r
  alighting_stop_back r h = stop_back T M m r.trip r.board (board_inside r h)

  boarding_time_back : (r : Ride) → IsRide T r → boarding_time M (turn_ride T r) ≡ mirror_time (alighting_time T r)
  boarding_time_back r h = departure_back T M m r.trip r.alight (alight_inside r h)

  alighting_time_back : (r : Ride) → IsRide T r → alighting_time M (turn_ride T r) ≡ mirror_time (boarding_time T r)
  alighting_time_back r h = arrival_back T M m r.trip r.board (board_inside r h)

  ride_back : (r : Ride) → IsRide T r → IsRide M (turn_ride T r)
  ride_back r h =
      let inside = alight_inside r h in
      record {
        onward = omega (arith, h.onward, inside);
        boards = subst IsTrue (sym (ap (λ (e : Event). e.board) (event_at_back T M m r.trip r.alight inside))) h.alights;
        alights = subst IsTrue (sym (ap (λ (e : Event). e.alight) (event_at_back T M m r.trip r.board (board_inside r h)))) h.boards;
      }

  change_turned : (r s : Ride) → IsRide T r → IsRide T s → CanChange T r s → CanChange M (turn_ride T s) (turn_ride T r)
  change_turned r s h k can =
      let between : change M (alighting_stop M (turn_ride T s)) (boarding_stop M (turn_ride T r)) ≡ change T (alighting_stop T r) (boarding_stop T s) =
      (λ i. change M (alighting_stop_back s k i) (boarding_stop_back r h i)) ∙ change_back T M m.footpaths (boarding_stop T s) (alighting_stop T r) in
      change_in_time (change T (alighting_stop T r) (boarding_stop T s)) (change M (alighting_stop M (turn_ride T s)) (boarding_stop M (turn_ride T r))) (alighting_time T r) (boarding_time T s)
      (alighting_time M (turn_ride T s)) (boarding_time M (turn_ride T r)) between (alighting_time_back s k) (boarding_time_back r h) can

  -- a walk to the target becomes one from it, and one from the origin one to it
  walk_from_target : (r : Ride) (target : ℕ) → IsRide T r → walk M target (boarding_stop M (turn_ride T r)) ≡ walk T (alighting_stop T r) target
  walk_from_target r target h = ap (walk M target) (boarding_stop_back r h) ∙ walk_back T M m.footpaths target (alighting_stop T r)

  walk_to_origin : (r : Ride) (origin : ℕ) → IsRide T r → walk M (alighting_stop M (turn_ride T r)) origin ≡ walk T origin (boarding_stop T r)
  walk_to_origin r origin h = ap (λ p. walk M p origin) (alighting_stop_back r h) ∙ walk_back T M m.footpaths (boarding_stop T r) origin

  -- rides that lead on lead back
  leads_back : (r : Ride) (rest others : List Ride) (origin target : ℕ) → IsRide T r → LeadsOn T r rest target → LeadsOn M (turn_ride T r) others origin
      → Leads M target (turn_before T rest (turn_ride T r ∷ others)) origin
  leads_back r [] others origin target ride on behind = (subst (λ o. IsSome o) (sym (walk_from_target r target ride)) on, ride_back r ride, behind)
  leads_back r (s ∷ rest) others origin target ride on behind =
      leads_back s rest (turn_ride T r ∷ others) origin target on.1 on.2 (change_turned r s ride on.1 on.0, ride_back r ride, behind)

  pub leads_turned : (origin target : ℕ) (rides : List Ride) → Leads T origin rides target → Leads M target (turn_rides T rides) origin
  leads_turned origin target [] h = subst (λ o. IsSome o) (sym (walk_back T M m.footpaths target origin)) h
  leads_turned origin target (r ∷ rest) h =
      leads_back r rest [] origin target h.1 h.2 (subst (λ o. IsSome o) (sym (walk_to_origin r origin h.1)) h.0)

  -- when they arrive: the last one turned round is the first one
  arrives_last : (asked : ℤ) (x : Ride) (rest others : List Ride) (origin target : ℕ) → arrival M asked target (turn_before T rest (x ∷ others)) origin ≡ arrival_after M x others origin
  arrives_last asked x [] others origin target = refl
  arrives_last asked x (s ∷ rest) others origin target = arrives_last asked (turn_ride T s) rest (x ∷ others) origin target

  secs_to_origin : (r : Ride) (origin : ℕ) → IsRide T r → walk_secs M (alighting_stop M (turn_ride T r)) origin ≡ walk_secs T origin (boarding_stop T r)
  secs_to_origin r origin h = ap (λ o. pos (unwrap_or o 0)) (walk_to_origin r origin h)

  secs_from_target : (r : Ride) (target : ℕ) → IsRide T r → walk_secs M target (boarding_stop M (turn_ride T r)) ≡ walk_secs T (alighting_stop T r) target
  secs_from_target r target h = ap (λ o. pos (unwrap_or o 0)) (walk_from_target r target h)

  pub arrival_turned : (by : ℤ) (origin target : ℕ) (rides : List Ride) → Leads T origin rides target → arrival M (mirror_time by) target (turn_rides T rides) origin ≡ mirror_time (departure T by origin rides target)
  arrival_turned by origin target [] h =
      let same : walk_secs M target origin ≡ walk_secs T origin target = ap (λ o. pos (unwrap_or o 0)) (walk_back T M m.footpaths target origin) in
      omega (arith, ints, same)
  arrival_turned by origin target (r ∷ rest) h =
      let time = alighting_time_back r h.1 in
      let secs = secs_to_origin r origin h.1 in
      arrives_last (mirror_time by) (turn_ride T r) rest [] origin target ∙ omega (arith, ints, time, secs)

  -- when they leave: the first one turned round is the last one
  leaves_first : (asked : ℤ) (r : Ride) (rest others : List Ride) (origin target : ℕ) → IsRide T r → LeadsOn T r rest target
      → departure M asked target (turn_before T rest (turn_ride T r ∷ others)) origin ≡ mirror_time (arrival_after T r rest target)
  leaves_first asked r [] others origin target h on =
      let time = boarding_time_back r h in
      let secs = secs_from_target r target h in
      omega (arith, ints, time, secs)
  leaves_first asked r (s ∷ rest) others origin target h on = leaves_first asked s rest (turn_ride T r ∷ others) origin target on.1 on.2

  pub departure_turned : (leave : ℤ) (origin target : ℕ) (rides : List Ride) → Leads T origin rides target → departure M (mirror_time leave) target (turn_rides T rides) origin ≡ mirror_time (arrival T leave origin rides target)
  departure_turned leave origin target [] h =
      let same : walk_secs M target origin ≡ walk_secs T origin target = ap (λ o. pos (unwrap_or o 0)) (walk_back T M m.footpaths target origin) in
      omega (arith, ints, same)
  departure_turned leave origin target (r ∷ rest) h = leaves_first (mirror_time leave) r rest [] origin target h.1 h.2

  -- in time, seen from either end
  leaves_by : (by : ℤ) (r : Ride) (rest others : List Ride) (origin target : ℕ) → IsRide T r → LeadsOn T r rest target → arrival_after T r rest target ≤ℤ by
      → LeavesNoEarlier M (mirror_time by) target (turn_before T rest (turn_ride T r ∷ others))
  leaves_by by r [] others origin target h on before =
      let time = boarding_time_back r h in
      let secs = secs_from_target r target h in
      omega (arith, ints, time, secs, before)
  leaves_by by r (s ∷ rest) others origin target h on before = leaves_by by s rest (turn_ride T r ∷ others) origin target on.1 on.2 before

  pub leaves_turned : (by : ℤ) (origin target : ℕ) (rides : List Ride) → Leads T origin rides target → ArrivesNoLater T by rides target → LeavesNoEarlier M (mirror_time by) target (turn_rides T rides)
  leaves_turned by origin target [] h before = tt
  leaves_turned by origin target (r ∷ rest) h before = leaves_by by r rest [] origin target h.1 h.2 before

  arrives_by : (limit : ℤ) (x : Ride) (rest others : List Ride) (origin target : ℕ) → arrival_after M x others origin ≤ℤ limit → ArrivesNoLater M limit (turn_before T rest (x ∷ others)) origin
  arrives_by limit x [] others origin target h = h
  arrives_by limit x (s ∷ rest) others origin target h = arrives_by limit (turn_ride T s) rest (x ∷ others) origin target h

  pub arrives_turned : (leave : ℤ) (origin target : ℕ) (rides : List Ride) → Leads T origin rides target → LeavesNoEarlier T leave origin rides → ArrivesNoLater M (mirror_time leave) (turn_rides T rides) origin
  arrives_turned leave origin target [] h before = tt
  arrives_turned leave origin target (r ∷ rest) h before =
      let time = alighting_time_back r h.1 in
      let secs = secs_to_origin r origin h.1 in
      arrives_by (mirror_time leave) (turn_ride T r) rest [] origin target (omega (arith, ints, time, secs, before))

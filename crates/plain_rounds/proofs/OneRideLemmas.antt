-- A journey of exactly one ride is a ride on one trip, boarded and left at two of its events.
use Rattle.std.proofs.Common.{◌≡◌, ℕ, suc, ◌<◌, List, [], ◌∷◌, length, arith, ap, ℤ}
use Rattle.std.specs.Prelude.{Contains}
use Rattle.tb_base.specs.declared.query.Value.{Value}
use Rattle.tb_base.specs.TimetableData.{TimetableData}
use Rattle.tb_base.specs.Journeys.{Ride, Leads, LeavesNoEarlier}
use Rattle.tb_base.specs.BestValues.{IsDirectArrival, value_of}
use Rattle.tb_base.proofs.Events.{MayAlight-inside}
use Rattle.plain_rounds.specs.OneRide.{ArrivesOnTrip}

module _ (T : TimetableData) (origins targets : List ℕ) (asked : ℤ) where
  pub direct_from_trip : (t : ℕ) (time : ℤ) → ArrivesOnTrip T origins targets asked t time → IsDirectArrival T (record { from = origins; to = targets; leave = asked }) time
  direct_from_trip t time (i, inside, ((b, before, (boards, (p, from, (walk_in, in_time)))), (alights, (q, to, (walk_out, is))))) = (
    record { origin = p; rides = record { trip = t; board = b; alight = i } ∷ []; target = q },
    record {
      journey = record { origin = from; target = to; leads = (walk_in, record { onward = before; boards = boards; alights = alights }, walk_out) };
      leaves = in_time;
      value = ap (λ (z : ℤ). record { arrive = z; rides = 1 }) is;
    },
  )

  pub trip_from_direct : (time : ℤ) → IsDirectArrival T (record { from = origins; to = targets; leave = asked }) time → (t : ℕ) × (t < length T.trips) × ArrivesOnTrip T origins targets asked t time
  trip_from_direct time (j, has) = by_rides j.origin j.rides j.target has.journey.origin has.journey.target has.journey.leads has.leaves has.value
    where
      by_rides : (origin : ℕ) (rides : List Ride) (target : ℕ) → Contains origins origin → Contains targets target → Leads T origin rides target → LeavesNoEarlier T asked origin rides
          → record { arrive = time; rides = 1 } ≡ value_of T asked (record { origin = origin; rides = rides; target = target })
          → (t : ℕ) × (t < length T.trips) × ArrivesOnTrip T origins targets asked t time
      by_rides p [] q from to leads leaves value = absurd (let e : ◌≡◌ {A = ℕ} 1 0 = ap (λ (v : Value). v.rides) value in omega (arith, e))
      by_rides p (r ∷ []) q from to leads leaves value = (
        r.trip,
        (MayAlight-inside T r.trip r.alight leads.1.alights).0,
        (
          r.alight,
          (MayAlight-inside T r.trip r.alight leads.1.alights).1,
          ((r.board, leads.1.onward, (leads.1.boards, (p, from, (leads.0, leaves)))), (leads.1.alights, (q, to, (leads.2, ap (λ (v : Value). v.arrive) value)))),
        ),
      )
      by_rides p (r ∷ s ∷ rest) q from to leads leaves value = absurd (let e : ◌≡◌ {A = ℕ} 1 (suc (suc (length rest))) = ap (λ (v : Value). v.rides) value in omega (arith, e))

-- Journeys turned round, as the mirror has them.
use Rattle.std.specs.Prelude.{ℕ, ◌-◌, List, [], ◌∷◌, length, map, reverse}
use Rattle.tb_base.specs.declared.query.Leg.{Leg}
use Rattle.tb_base.specs.declared.query.Leg.TheVariants.{Walk as WalkLeg, Ride as RideLeg}
use Rattle.tb_base.specs.Journeys.{Journey, Ride}
use Rattle.tb_base.specs.TimetableData.{TimetableData, events_of}

-- the index of an event of trip t, counted from the trip's last event
abbrev pub index_back : TimetableData → ℕ → ℕ → ℕ
index_back T t i = length (events_of T t) - 1 - i

-- a ride of T turned round: it is boarded where it was left
abbrev pub turn_ride : TimetableData → Ride → Ride
turn_ride T r = record {
  trip = r.trip;
  board = index_back T r.trip r.alight;
  alight = index_back T r.trip r.board;
}

-- rides turned round, the last one first, before others
abbrev pub turn_before : TimetableData → List Ride → List Ride → List Ride
turn_before T [] others = others
turn_before T (r ∷ rest) others = turn_before T rest (turn_ride T r ∷ others)

abbrev pub turn_rides : TimetableData → List Ride → List Ride
turn_rides T rides = turn_before T rides []

-- a journey turned round: from its target to its origin
abbrev pub turn_journey : TimetableData → Journey → Journey
turn_journey T j =
    record { origin = j.target; rides = turn_rides T j.rides; target = j.origin }

-- its legs turned round, the last one first
abbrev pub turn_leg : TimetableData → Leg → Leg
turn_leg T (WalkLeg p q secs) = WalkLeg q p secs
turn_leg T (RideLeg t b i) = RideLeg t (index_back T t i) (index_back T t b)

abbrev pub turn_legs : TimetableData → List Leg → List Leg
turn_legs T legs = reverse (map (turn_leg T) legs)

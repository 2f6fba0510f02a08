-- Journeys as they are shown: with the shortest walks at both ends.
use Rattle.std.specs.Prelude.{◌≡◌, ℕ, ◌<◌, ◌≤◌, ◌⊎◌, List, [], ◌∷◌, ⊤, Option, Some, IsSome, Contains, MatchOption, length, unwrap_or}
use Rattle.tb_base.specs.declared.query.Leg.{Leg}
use Rattle.tb_base.specs.declared.query.Leg.TheVariants.{Ride as RideLeg}
use Rattle.tb_base.specs.declared.query.Value.{Value}
use Rattle.tb_base.specs.TimetableData.{TimetableData, events_of}
use Rattle.tb_base.specs.Walking.{walk}
use Rattle.tb_base.specs.Journeys.{Ride, Journey, boarding_stop, alighting_stop}
use Rattle.tb_base.specs.BestValues.{QueryData, HasValue}
use Rattle.tb_base.specs.JourneyRules.{legs_of}
use Rattle.plain_rounds.specs.declared.arrivals.PlainRide.{PlainRide}
use Rattle.plain_rounds.specs.declared.legs.Near.{Near}
use Rattle.plain_rounds.specs.declared.legs.Walks.{Walks}
use Rattle.plain_rounds.specs.declared.legs.Walks.TheVariants.{To, From}

-- The stop has a walk, and none of the stops has a shorter one; of the stops with equally short
-- walks it has the lowest number.
pub record IsNearest (secs_to : ℕ → Option ℕ) (stops : List ℕ) (p : ℕ) : Type 0 where
  pub among : Contains stops p
  pub walks : IsSome (secs_to p)
  pub first : (q s : ℕ) → Contains stops q → secs_to q ≡ Some s → (unwrap_or (secs_to p) 0 < s)
      ⊎ ((unwrap_or (secs_to p) 0 ≡ s) × (p ≤ q))

-- the last of some rides
abbrev pub last_ride : Ride → List Ride → Ride
last_ride r [] = r
last_ride r (s ∷ rest) = last_ride s rest

-- with rides, the origin is the nearest to the first boarding stop, and the target the nearest from
-- the last alighting stop
abbrev pub HasShortestWalks : TimetableData → QueryData → ℕ → List Ride → ℕ → Type 0
HasShortestWalks T Q origin [] target = ⊤
HasShortestWalks T Q origin (r ∷ rest) target =
    IsNearest (λ o. walk T o (boarding_stop T r)) Q.from origin
    × IsNearest (λ q. walk T (alighting_stop T (last_ride r rest)) q) Q.to target

-- the legs spell a journey that has the value, and has the shortest walks at both ends
pub record SpellShortest (T : TimetableData) (Q : QueryData) (legs : List Leg) (v : Value)
    : Type 0 where
  pub by : Journey
  pub has : HasValue T Q by v
  pub spelt : legs ≡ legs_of T by.origin by.rides by.target
  pub shortest : HasShortestWalks T Q by.origin by.rides by.target

-- the stop whose walks are meant
abbrev pub stop_of : Walks → ℕ
stop_of (To p) = p
stop_of (From p) = p

-- the seconds of the walk from or to another stop
abbrev pub secs_by : TimetableData → Walks → ℕ → Option ℕ
secs_by T (To p) other = walk T other p
secs_by T (From p) other = walk T p other

-- a walk so long to the stop is no better: it is longer, or as long and the stop's number is no
-- lower
abbrev pub IsAsNear : Near → ℕ → ℕ → Type 0
IsAsNear n stop secs = (n.secs < secs) ⊎ ((n.secs ≡ secs) × (n.stop ≤ stop))

-- the nearest of the stops, and none where none of them has a walk
abbrev pub IsNearestOf : (ℕ → Option ℕ) → (ℕ → Type 0) → Option Near → Type 0
IsNearestOf secs_to IsAmong near = MatchOption near ((q s : ℕ) → IsAmong q → secs_to q ≡ Some s → ⊥)
    (λ n. IsAmong n.stop × (secs_to n.stop ≡ Some n.secs) × ((q s : ℕ) → IsAmong q → secs_to q
    ≡ Some s → IsAsNear n q s))

-- the trip of the ride and its events exist
abbrev pub IsInside : TimetableData → PlainRide → Type 0
IsInside T s = (s.trip < length T.trips) × (s.board < length (events_of T s.trip))
    × (s.alight < length (events_of T s.trip))

-- the leg of a ride
abbrev pub ride_leg : PlainRide → Leg
ride_leg s = RideLeg s.trip s.board s.alight

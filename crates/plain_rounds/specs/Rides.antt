-- Rides one after another, the last one first, and what they leave one ready for.
use Rattle.std.specs.Prelude.{◌≡◌, ℕ, ◌<◌, ◌≤◌, List, [], ◌∷◌, length, ℤ, pos, ◌+ℤ◌, ◌≤ℤ◌, ⊤, Option, None, Some, Contains, IsSomeAnd, IfSome, slice_get}
use Rattle.tb_base.specs.TimetableData.{TimetableData}
use Rattle.tb_base.specs.Walking.{walk, change}
use Rattle.tb_base.specs.Journeys.{Ride, IsRide, boarding_stop, boarding_time, alighting_stop, alighting_time}
use Rattle.tb_base.specs.BestValues.{QueryData}
use Rattle.plain_rounds.specs.declared.arrivals.StopArrivals.{StopArrivals}
use Rattle.plain_rounds.specs.declared.arrivals.PlainRide.{PlainRide}
use Rattle.plain_rounds.specs.declared.labels.StopLabel.{StopLabel}
use Rattle.plain_rounds.specs.Labels.{IsNoLaterAt, label_at}
use Rattle.plain_rounds.specs.Rounds.{ride_of}

-- a ride that is boarded no earlier than one is ready at its stop
pub record IsBoarded (T : TimetableData) (IsReady : ℕ → ℤ → Type 0) (r : Ride) : Type 0 where
  pub ride : IsRide T r
  pub ready : ℤ
  pub at : IsReady (boarding_stop T r) ready
  pub in_time : ready ≤ℤ boarding_time T r

-- After these rides, the last one first, one can be at the stop and board there from the time on:
-- with none by a walk from an origin, else by a change.
abbrev pub IsReadyAfter : TimetableData → QueryData → List Ride → ℕ → ℤ → Type 0
IsReadyAfter T Q [] p time = (o : ℕ) × Contains Q.from o × IsSomeAnd (walk T o p) (λ secs. time
    ≡ (Q.leave +ℤ pos secs))
IsReadyAfter T Q (r ∷ back) p time = IsBoarded T (IsReadyAfter T Q back) r
    × IsSomeAnd (change T (alighting_stop T r) p) (λ secs. time ≡ (alighting_time T r +ℤ pos secs))

-- the ride stands at the place, and the rides before it are a trace
pub record IsRideAt (ridden : List PlainRide) (place : ℕ) (r : Ride) (IsRest : Option ℕ → Type 0)
    : Type 0 where
  pub step : PlainRide
  pub is : slice_get ridden place ≡ Some step
  pub ride : r ≡ ride_of step
  pub falls : IfSome step.before (λ n. n < place)
  pub rest : IsRest step.before

-- these rides, the last one first, are the one at the place and those before it
abbrev pub IsTrace : List PlainRide → List Ride → Option ℕ → Type 0
IsTrace ridden [] None = ⊤
IsTrace ridden [] (Some place) = ⊥
IsTrace ridden (r ∷ back) None = ⊥
IsTrace ridden (r ∷ back) (Some place) = IsRideAt ridden place r (IsTrace ridden back)

-- the label of a stop where one can board after at most so many rides
pub record IsReadyLabel (T : TimetableData) (Q : QueryData) (ridden : List PlainRide) (most p : ℕ)
    (l : StopLabel) : Type 0 where
  pub back : List Ride
  pub few : length back ≤ most
  pub trace : IsTrace ridden back l.ride
  pub ready : IsReadyAfter T Q back p l.time

-- the label of a stop where one alights from the last of at most so many rides
pub record IsArrivalLabel (T : TimetableData) (Q : QueryData) (ridden : List PlainRide) (most p : ℕ)
    (l : StopLabel) : Type 0 where
  pub back : List Ride
  pub last : Ride
  pub few : length back < most
  pub trace : IsTrace ridden (last ∷ back) l.ride
  pub boarded : IsBoarded T (IsReadyAfter T Q back) last
  pub stop : alighting_stop T last ≡ p
  pub time : alighting_time T last ≡ l.time

-- The arrivals are those by at most so many rides: each label is one, and none is later than such
-- rides arrive.
pub record AreArrivals (T : TimetableData) (Q : QueryData) (most : ℕ) (a : StopArrivals) : Type 0 where
  pub long : length a.labels.items ≡ length T.stops
  pub sound : (p : ℕ) (l : StopLabel) → label_at a.labels.items p ≡ Some l →
      IsArrivalLabel T Q a.ridden.items most p l
  pub all : (back : List Ride) (r : Ride) → length back < most →
      IsBoarded T (IsReadyAfter T Q back) r → IsNoLaterAt a.labels.items (alighting_stop T r)
      (alighting_time T r)

-- The labels say where one can board after at most so many rides: each label is one such, and none
-- is later than such rides allow.
pub record AreReady (T : TimetableData) (Q : QueryData) (most : ℕ) (ridden : List PlainRide)
    (labels : List (Option StopLabel)) : Type 0 where
  pub sound : (p : ℕ) (l : StopLabel) → label_at labels p ≡ Some l →
      IsReadyLabel T Q ridden most p l
  pub all : (back : List Ride) (p : ℕ) (time : ℤ) → length back ≤ most →
      IsReadyAfter T Q back p time → IsNoLaterAt labels p time

-- Arrivals at targets.
use Rattle.std.specs.Prelude.{◌≡◌, ℕ, ◌<◌, List, length, ℤ, pos, ◌+ℤ◌, ◌≤ℤ◌, Option, Contains, IsSomeAnd, MatchOption}
use Rattle.tb_base.specs.TimetableData.{TimetableData}
use Rattle.tb_base.specs.Walking.{walk}
use Rattle.tb_base.specs.Journeys.{walk_secs}
use Rattle.tb_base.specs.BestValues.{QueryData}
use Rattle.plain_rounds.specs.declared.arrivals.PlainRide.{PlainRide}
use Rattle.plain_rounds.specs.declared.hits.TargetArrival.{TargetArrival}
use Rattle.plain_rounds.specs.declared.labels.StopLabel.{StopLabel}
use Rattle.plain_rounds.specs.Labels.{label_at}
use Rattle.plain_rounds.specs.Rides.{IsArrivalLabel}
use Rattle.plain_rounds.specs.Shown.{IsNearest}

-- the hit is that of the label of stop p, by the walk to the nearest target
pub record IsHitFrom (T : TimetableData) (targets : List ℕ) (p : ℕ) (l : StopLabel)
    (h : TargetArrival) : Type 0 where
  pub from : h.from ≡ p
  pub ride : h.ride ≡ l.ride
  pub nearest : IsNearest (λ q. walk T p q) targets h.target
  pub arrives : h.arrive ≡ (l.time +ℤ walk_secs T p h.target)

-- a target is reached at the time, by a walk from the label of stop p
abbrev pub IsDueFrom : TimetableData → List ℕ → ℕ → StopLabel → ℤ → Type 0
IsDueFrom T targets p l time = (q : ℕ) × Contains targets q × IsSomeAnd (walk T p q) (λ secs. time
    ≡ (l.time +ℤ pos secs))

-- the same of the label that some stop has
abbrev pub IsHitOf : TimetableData → List ℕ → List (Option StopLabel) → TargetArrival → Type 0
IsHitOf T targets labels h = (p : ℕ) × (p < length T.stops) × IsSomeAnd (label_at labels p)
    (λ l. IsHitFrom T targets p l h)

abbrev pub IsDueOf : TimetableData → List ℕ → List (Option StopLabel) → ℤ → Type 0
IsDueOf T targets labels time = (p : ℕ) × (p < length T.stops) × IsSomeAnd (label_at labels p)
    (λ l. IsDueFrom T targets p l time)

-- the same of the label at an origin
abbrev pub IsHitOfOrigin : TimetableData → List ℕ → List ℕ → StopLabel → TargetArrival → Type 0
IsHitOfOrigin T origins targets start h = (o : ℕ) × Contains origins o
    × IsHitFrom T targets o start h

abbrev pub IsDueOfOrigin : TimetableData → List ℕ → List ℕ → StopLabel → ℤ → Type 0
IsDueOfOrigin T origins targets start time = (o : ℕ) × Contains origins o
    × IsDueFrom T targets o start time

-- one of the hits, no later than any of the times; none where there is no such time
abbrev pub IsEarliest : (TargetArrival → Type 0) → (ℤ → Type 0) → Option TargetArrival → Type 0
IsEarliest IsHit IsDue hit = MatchOption hit ((time : ℤ) → IsDue time → ⊥) (λ h. IsHit h
    × ((time : ℤ) → IsDue time → h.arrive ≤ℤ time))

-- the hit is by a walk from the label of a stop where one alights after at most so many rides
pub record IsArrivalHit (T : TimetableData) (Q : QueryData) (ridden : List PlainRide) (most : ℕ)
    (h : TargetArrival) : Type 0 where
  pub stop : ℕ
  pub label : StopLabel
  pub arrival : IsArrivalLabel T Q ridden most stop label
  pub hit : IsHitFrom T Q.to stop label h

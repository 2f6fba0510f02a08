-- What a round of rides does to the arrivals.
use Rattle.std.specs.Prelude.{◌≡◌, ℕ, ◌+◌, ◌-◌, ◌<◌, ◌≤◌, ◌⊎◌, List, length, ℤ, ◌≤ℤ◌, Option, Some, IsTrue, IsSomeAnd, slice_get, slice_index_or}
use Rattle.tb_base.specs.declared.table.Event.{Event}
use Rattle.tb_base.specs.TimetableData.{TripData, TimetableData, no_event, events_of, event_at, stop_at, arrival_at, MayAlight}
use Rattle.tb_base.specs.Journeys.{Ride, alighting_stop, alighting_time}
use Rattle.plain_rounds.specs.declared.arrivals.StopArrivals.{StopArrivals}
use Rattle.plain_rounds.specs.declared.arrivals.FirstBoarding.{FirstBoarding}
use Rattle.plain_rounds.specs.declared.arrivals.PlainRide.{PlainRide}
use Rattle.plain_rounds.specs.declared.labels.StopLabel.{StopLabel}
use Rattle.plain_rounds.specs.declared.rounds.Rounds.{Rounds}
use Rattle.plain_rounds.specs.Labels.{IsNoLaterAt, label_at}

-- a ride, without the place of the ride before it
abbrev pub ride_of : PlainRide → Ride
ride_of s = record { trip = s.trip; board = s.board; alight = s.alight }

-- by the label of its stop one can board at the event, after the ride that the label names
abbrev pub LetsBoard : List (Option StopLabel) → Event → Option ℕ → Type 0
LetsBoard ready e before = IsTrue e.board × IsSomeAnd (label_at ready e.stop)
    (λ l. (l.time ≤ℤ e.dep) × (l.ride ≡ before))

-- a ride that the labels let one board
pub record IsBoardable (T : TimetableData) (ready : List (Option StopLabel)) (s : PlainRide)
    : Type 0 where
  pub onward : s.board < s.alight
  pub boards : LetsBoard ready (event_at T s.trip s.board) s.before
  pub alights : MayAlight T s.trip s.alight

-- the label is that of an offered ride, which stands in the list from a place on
pub record IsLabelOf (T : TimetableData) (ridden : List PlainRide) (from : ℕ)
    (IsRideOffered : PlainRide → Type 0) (p : ℕ) (l : StopLabel) : Type 0 where
  pub place : ℕ
  pub is_place : l.ride ≡ Some place
  pub new : from ≤ place
  pub step : PlainRide
  pub is_step : slice_get ridden place ≡ Some step
  pub offered : IsRideOffered step
  pub stop : alighting_stop T (ride_of step) ≡ p
  pub time : alighting_time T (ride_of step) ≡ l.time

-- The arrivals take what the offered rides give: no label gets later, each new one is that of an
-- offered ride, and none is later than such a ride arrives.
pub record TakesRides (T : TimetableData) (old new : StopArrivals) (IsRideOffered : PlainRide → Type 0)
    : Type 0 where
  pub long : length new.labels.items ≡ length old.labels.items
  pub grown : length old.ridden.items ≤ length new.ridden.items
  pub ridden : (n : ℕ) (s : PlainRide) → slice_get old.ridden.items n ≡ Some s →
      slice_get new.ridden.items n ≡ Some s
  pub unchanged : length new.ridden.items ≡ length old.ridden.items → new.labels.items
      ≡ old.labels.items
  pub kept : (p : ℕ) (time : ℤ) → IsNoLaterAt old.labels.items p time →
      IsNoLaterAt new.labels.items p time
  pub made : (p : ℕ) (l : StopLabel) → label_at new.labels.items p ≡ Some l →
      (label_at old.labels.items p ≡ Some l) ⊎ IsLabelOf T new.ridden.items
      (length old.ridden.items) IsRideOffered p l
  pub taken : (s : PlainRide) → IsRideOffered s → IsNoLaterAt new.labels.items
      (alighting_stop T (ride_of s)) (alighting_time T (ride_of s))

-- the last index of a trip
abbrev pub last_index : TripData → ℕ
last_index t = length t.events - 1

-- a trip has been left at each event behind an index
abbrev pub IsLeftBehind : TimetableData → List (Option StopLabel) → ℕ → ℕ → Type 0
IsLeftBehind T labels t until = (i : ℕ) → until < i → MayAlight T t i →
    IsNoLaterAt labels (stop_at T t i) (arrival_at T t i)

-- what the rounds keep
pub record AreKept (T : TimetableData) (r : Rounds) : Type 0 where
  pub ready : length r.ready.items ≡ length T.stops
  pub labels : length r.arrivals.labels.items ≡ length T.stops
  pub boarded_at : length r.boarded_at.items ≡ length T.trips
  pub inside : (t : ℕ) → t < length T.trips → slice_index_or r.boarded_at.items t 0
      < length (events_of T t)
  pub left : (t : ℕ) → t < length T.trips → IsLeftBehind T r.arrivals.labels.items t
      (slice_index_or r.boarded_at.items t 0)

-- the ride alights from the trip at an event behind the boarding, up to an index
abbrev pub IsAlong : TimetableData → ℕ → FirstBoarding → ℕ → PlainRide → Type 0
IsAlong T trip boarding until s =
    (i : ℕ) × (boarding.at < i) × (i < until + 1)
    × ((s ≡ record { trip = trip; board = boarding.at; alight = i; before = boarding.before })
    × MayAlight T trip i)

-- none of the first events can be boarded
abbrev pub NoneBoards : List (Option StopLabel) → List Event → ℕ → Type 0
NoneBoards ready events n = (b : ℕ) (before : Option ℕ) → b < n →
    LetsBoard ready (slice_index_or events b no_event) before → ⊥

-- When a set of hops is enough to find all best values.
use Rattle.std.specs.Prelude.{◌≡◌, ℕ, ◌+◌, ◌<◌, ◌⊎◌, List, ◌∷◌, ◌++◌, length, ℤ, pos, ◌+ℤ◌, ◌≤ℤ◌, Contains, IsSomeAnd}
use Rattle.tb_base.specs.declared.transfer.Hop.{Hop}
use Rattle.tb_base.specs.TimetableData.{TimetableData, events_of, stop_at, arrival_at, departure_at, MayBoard, MayAlight}
use Rattle.tb_base.specs.Walking.{change}
use Rattle.tb_base.specs.Journeys.{Ride, Leads, LeavesNoEarlier, arrival}

-- a hop from t@i that can be taken
pub record IsPossibleHop (T : TimetableData) (t i : ℕ) (h : Hop) : Type 0 where
  pub later : 0 < i
  pub not_last : h.at + 1 < length (events_of T h.trip)
  pub alights : MayAlight T t i
  pub boards : MayBoard T h.trip h.at
  pub in_time : IsSomeAnd (change T (stop_at T t i) (stop_at T h.trip h.at))
      (λ secs. (arrival_at T t i +ℤ pos secs) ≤ℤ departure_at T h.trip h.at)

-- other rides between the same stops, that leave no earlier than asked and arrive no later
pub record DoesAsWell (T : TimetableData) (asked : ℤ) (origin target : ℕ)
    (old new : List Ride) : Type 0 where
  pub leads : Leads T origin new target
  pub leaves : LeavesNoEarlier T asked origin new
  pub arrives : arrival T asked origin new target ≤ℤ arrival T asked origin old target

-- where rides from an origin to a target, at or after the asked time, change from one to the next
pub record ChangeIn : Type 0 where
  pub asked : ℤ
  pub origin : ℕ
  pub target : ℕ
  pub before : List Ride
  pub left : Ride
  pub boarded : Ride
  pub after : List Ride

-- all of the rides
abbrev pub rides_of : ChangeIn → List Ride
rides_of c = c.before ++ c.left ∷ c.boarded ∷ c.after

-- the rides lead from the origin to the target, and leave no earlier than asked
pub record IsOfJourney (T : TimetableData) (c : ChangeIn) : Type 0 where
  pub leads : Leads T c.origin (rides_of c) c.target
  pub leaves : LeavesNoEarlier T c.asked c.origin (rides_of c)

-- other rides do as well as those of the change
abbrev pub ServesAsWell : TimetableData → ChangeIn → List Ride → Type 0
ServesAsWell T c new = DoesAsWell T c.asked c.origin c.target (rides_of c) new

-- fewer rides do as well
pub record SavesARide (T : TimetableData) (c : ChangeIn) : Type 0 where
  pub new : List Ride
  pub fewer : length new < length (rides_of c)
  pub as_well : ServesAsWell T c new

-- As many rides do as well, after the same rides before, that leave the same trip by a hop of the
-- set.
pub record GoesByHop (T : TimetableData) (hops : ℕ → ℕ → List Hop) (c : ChangeIn) : Type 0 where
  pub at : ℕ
  pub hop : Hop
  pub until : ℕ
  pub others : List Ride
  pub onward : c.left.board < at
  pub in_set : Contains (hops c.left.trip at) hop
  pub as_many : length others ≡ length c.after
  pub as_well : ServesAsWell T c (c.before
      ++ record { trip = c.left.trip; board = c.left.board; alight = at }
      ∷ record { trip = hop.trip; board = hop.at; alight = until } ∷ others)

-- Hops for each event of a trip are enough: each is possible, and wherever a journey changes, a
-- ride is saved or a hop of the set serves.
pub record AreSufficient (T : TimetableData) (hops : ℕ → ℕ → List Hop) : Type 0 where
  pub possible : (t i : ℕ) (h : Hop) → Contains (hops t i) h → IsPossibleHop T t i h
  pub enough : (c : ChangeIn) → IsOfJourney T c → SavesARide T c ⊎ GoesByHop T hops c

-- The latest departures that arrive by a time, by departure and number of rides.
use Rattle.std.specs.Prelude.{◌≡◌, ℕ, ◌≤◌, ◌<◌, List, [], ◌∷◌, length, ℤ, ◌-ℤ◌, ◌≤ℤ◌, ⊤, All, AllPairs, Contains}
use Rattle.tb_base.specs.declared.query.Leg.{Leg}
use Rattle.tb_base.specs.declared.query.Value.{Value}
use Rattle.tb_base.specs.BestValues.{QueryData}
use Rattle.tb_base.specs.JourneyRules.{legs_of}
use Rattle.tb_base.specs.Journeys.{IsJourney, Journey, Ride, arrival_after, leaving_time, walk_secs}
use Rattle.tb_base.specs.TimetableData.{TimetableData}
use Rattle.edition_store.specs.Mirror.{mirror_time}

-- origins, targets, and the time by which to arrive
pub record ArrivalData : Type 0 where
  pub from : List ℕ
  pub to : List ℕ
  pub by : ℤ

-- when one leaves, and the number of rides
pub record LeavingData : Type 0 where
  pub leave : ℤ
  pub rides : ℕ

-- when a journey leaves, where a walk arrives at the time asked for
abbrev pub departure : TimetableData → ℤ → ℕ → List Ride → ℕ → ℤ
departure T by origin [] target = by -ℤ walk_secs T origin target
departure T by origin (r ∷ rest) target = leaving_time T origin r

-- The journey arrives no later than asked. A walk may arrive at any time.
abbrev pub ArrivesNoLater : TimetableData → ℤ → List Ride → ℕ → Type 0
ArrivesNoLater T by [] target = ⊤
ArrivesNoLater T by (r ∷ rest) target = arrival_after T r rest target ≤ℤ by

-- the departure and the number of rides of a journey
abbrev pub leaving_of : TimetableData → ℤ → Journey → LeavingData
leaving_of T by j =
    record { leave = departure T by j.origin j.rides j.target; rides = length j.rides }

-- a journey that arrives in time, with its departure and number of rides
pub record HasLeaving (T : TimetableData) (A : ArrivalData) (j : Journey)
    (d : LeavingData) : Type 0 where
  pub journey : IsJourney T A.from A.to j
  pub arrives : ArrivesNoLater T A.by j.rides j.target
  pub leaving : d ≡ leaving_of T A.by j

abbrev pub IsPossible : TimetableData → ArrivalData → LeavingData → Type 0
IsPossible T A d = (j : Journey) × HasLeaving T A j d

-- d leaves no earlier than e and has no more rides
abbrev pub LeavesNoWorse : LeavingData → LeavingData → Type 0
LeavesNoWorse d e = (e.leave ≤ℤ d.leave) × (d.rides ≤ e.rides)

-- a departure that no different one is no worse than
pub record IsLatest (T : TimetableData) (A : ArrivalData) (d : LeavingData) : Type 0 where
  pub possible : IsPossible T A d
  pub undominated : (e : LeavingData) → IsPossible T A e → LeavesNoWorse e d → e ≡ d

-- the latest departures, all of them, by rides, smallest first
pub record AreLatest (T : TimetableData) (A : ArrivalData) (ds : List LeavingData) : Type 0 where
  pub latest : All (IsLatest T A) ds
  pub complete : (d : LeavingData) → IsLatest T A d → Contains ds d
  pub ordered : AllPairs (λ d e. d.rides < e.rides) ds

-- the legs spell a journey that has the departure
pub record SpellLeaving (T : TimetableData) (A : ArrivalData) (legs : List Leg)
    (d : LeavingData) : Type 0 where
  pub by : Journey
  pub has : HasLeaving T A by d
  pub spelt : legs ≡ legs_of T by.origin by.rides by.target

-- what one asks the mirror: to leave the targets no earlier than at the mirrored time
abbrev pub mirror_query : ArrivalData → QueryData
mirror_query A = record { from = A.to; to = A.from; leave = mirror_time A.by }

-- the departure that is the arrival of a value in the mirror
abbrev pub leaving_from : Value → LeavingData
leaving_from v = record { leave = mirror_time v.arrive; rides = v.rides }

-- the value in the mirror of which a departure is the arrival
abbrev pub value_from : LeavingData → Value
value_from d = record { arrive = mirror_time d.leave; rides = d.rides }

-- Journeys: a walk, or rides with a walk before the first and after the last.
use Rattle.std.specs.Prelude.{ℕ, ◌<◌, List, [], ◌∷◌, ℤ, pos, ◌+ℤ◌, ◌-ℤ◌, ◌≤ℤ◌, ⊤, IsSome, IsSomeAnd, unwrap_or, Contains}
use Rattle.tb_base.specs.TimetableData.{TimetableData, stop_at, arrival_at, departure_at, MayBoard, MayAlight}
use Rattle.tb_base.specs.Walking.{walk, change}

-- a ride: a trip, and the indexes of the events where it is boarded and left
pub record Ride : Type 0 where
  pub trip : ℕ
  pub board : ℕ
  pub alight : ℕ

-- where and when a ride begins and ends
abbrev pub boarding_stop : TimetableData → Ride → ℕ
boarding_stop T r = stop_at T r.trip r.board

abbrev pub alighting_stop : TimetableData → Ride → ℕ
alighting_stop T r = stop_at T r.trip r.alight

abbrev pub boarding_time : TimetableData → Ride → ℤ
boarding_time T r = departure_at T r.trip r.board

abbrev pub alighting_time : TimetableData → Ride → ℤ
alighting_time T r = arrival_at T r.trip r.alight

-- a ride leads to a later event of its trip, with boarding and alighting allowed
pub record IsRide (T : TimetableData) (r : Ride) : Type 0 where
  pub onward : r.board < r.alight
  pub boards : MayBoard T r.trip r.board
  pub alights : MayAlight T r.trip r.alight

-- there is a change from the end of one ride to the start of the next, and it is in time
abbrev pub CanChange : TimetableData → Ride → Ride → Type 0
CanChange T r s =
    IsSomeAnd (change T (alighting_stop T r) (boarding_stop T s))
    (λ secs. (alighting_time T r +ℤ pos secs) ≤ℤ boarding_time T s)

-- after the ride r these rides lead to the target: with none left on foot, else by a change to the
-- next
abbrev pub LeadsOn : TimetableData → Ride → List Ride → ℕ → Type 0
LeadsOn T r [] target = IsSome (walk T (alighting_stop T r) target)
LeadsOn T r (s ∷ rest) target = CanChange T r s × IsRide T s × LeadsOn T s rest target

-- the rides lead from the origin to the target; with none it is a walk
abbrev pub Leads : TimetableData → ℕ → List Ride → ℕ → Type 0
Leads T origin [] target = IsSome (walk T origin target)
Leads T origin (r ∷ rest) target =
    IsSome (walk T origin (boarding_stop T r)) × IsRide T r × LeadsOn T r rest target

pub record Journey : Type 0 where
  pub origin : ℕ
  pub rides : List Ride
  pub target : ℕ

-- a journey from one of the origins to one of the targets
pub record IsJourney (T : TimetableData) (origins targets : List ℕ) (j : Journey) : Type 0 where
  pub origin : Contains origins j.origin
  pub target : Contains targets j.target
  pub leads : Leads T j.origin j.rides j.target

-- the seconds of a walk that exists
abbrev pub walk_secs : TimetableData → ℕ → ℕ → ℤ
walk_secs T p q = pos (unwrap_or (walk T p q) 0)

-- when a journey with rides leaves: at the first departure, minus the walk to it
abbrev pub leaving_time : TimetableData → ℕ → Ride → ℤ
leaving_time T origin first = boarding_time T first -ℤ walk_secs T origin (boarding_stop T first)

-- when it arrives: at the last arrival, plus the walk from it
abbrev pub arrival_after : TimetableData → Ride → List Ride → ℕ → ℤ
arrival_after T r [] target = alighting_time T r +ℤ walk_secs T (alighting_stop T r) target
arrival_after T r (s ∷ rest) target = arrival_after T s rest target

-- The journey leaves no earlier than asked. A walk may leave at any time.
abbrev pub LeavesNoEarlier : TimetableData → ℤ → ℕ → List Ride → Type 0
LeavesNoEarlier T asked origin [] = ⊤
LeavesNoEarlier T asked origin (r ∷ rest) = asked ≤ℤ leaving_time T origin r

-- when it arrives, where a walk leaves at the asked time
abbrev pub arrival : TimetableData → ℤ → ℕ → List Ride → ℕ → ℤ
arrival T asked origin [] target = asked +ℤ walk_secs T origin target
arrival T asked origin (r ∷ rest) target = arrival_after T r rest target

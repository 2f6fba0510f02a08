-- The events of trips, in the reckoning of their own day.
use Rattle.std.specs.Prelude.{◌≡◌, ℕ, ◌-◌, ◌<◌, ◌≤◌, List, length, slice_index_or, All, AllPairs, ℤ, pos, ◌≤ℤ◌, ◌-ℤ◌, ◌+ℤ◌}
use Rattle.tb_base.specs.declared.days.ServiceDay.{ServiceDay}
use Rattle.tb_base.specs.declared.table.Event.{Event}
use Rattle.tb_base.specs.ServiceDays.{seconds_after}
use Rattle.tb_base.specs.TimetableData.{no_event}
use Rattle.service_trips.specs.ServiceDay.{first_departure}

-- an event within the limits of a file's times, not left before it is reached
pub record IsDayEvent (e : Event) : Type 0 where
  pub since : pos 0 ≤ℤ e.arr
  pub waits : e.arr ≤ℤ e.dep
  pub latest : e.dep ≤ℤ pos 359999

-- at least two such events, each left before a later one is reached
pub record IsRide (ride : List Event) : Type 0 where
  pub long : 2 ≤ length ride
  pub events : All IsDayEvent ride
  pub onward : AllPairs (λ e f. e.dep ≤ℤ f.arr) ride

-- no events, or those of a trip
abbrev pub IsRideOrNone : List Event → Type 0
IsRideOrNone ride = 0 < length ride → IsRide ride

-- the seconds by which a trip of a service day is moved that starts at a time, told as times of the
-- date
abbrev pub shift : ServiceDay → List Event → ℕ → ℤ
shift d ride start = pos start -ℤ first_departure ride +ℤ seconds_after d

-- a number that stands for a time, and for one before the day its begin
pub record IsFromZero (time : ℤ) (n : ℕ) : Type 0 where
  pub none : time ≤ℤ pos 0 → n ≡ 0
  pub same : pos 0 ≤ℤ time → pos n ≡ time

-- when a trip that starts at a time arrives at its first stop, and departs from its last
abbrev pub begin_from : List Event → ℕ → ℤ
begin_from ride start =
    Event.arr (slice_index_or ride 0 no_event) +ℤ (pos start -ℤ first_departure ride)

abbrev pub end_from : List Event → ℕ → ℤ
end_from ride start =
    Event.dep (slice_index_or ride (length ride - 1) no_event)
    +ℤ (pos start -ℤ first_departure ride)

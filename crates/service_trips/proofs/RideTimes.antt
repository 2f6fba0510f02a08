-- When a trip arrives and departs that is moved to a start.
use Rattle.std.proofs.Common.{◌≡◌, ap, ℕ, ◌-◌, ◌<◌, List, map, length, inl, inr, arith}
use Rattle.std.specs.Prelude.{nat_le, nat_lt, not, ℤ, pos, int_lt, ◌+ℤ◌, ◌-ℤ◌, ◌≤ℤ◌}
use Rattle.std.proofs.lemmas.Int.{ints}
use Rattle.std.proofs.lemmas.Bool.{cases_Bool}
use Rattle.std.proofs.lemmas.Bool.Decides.{nat_tests}
use Rattle.std.proofs.lemmas.List.{get_or-map, length-map}
use Rattle.tb_base.specs.declared.days.ServiceDay.TheVariants as day
use Rattle.tb_base.specs.declared.table.Event.{Event}
use Rattle.tb_base.specs.TimetableData.{no_event}
use Rattle.service_trips.specs.ServiceDay.{moved, first_departure, starting_at}
use Rattle.service_trips.specs.TimetableTrips.{is_shown, last_arrival, last_departure}
use Rattle.service_trips.specs.ShownRides.{IsFromZero, IsRide}

-- a trip departs before it arrives
pub first_before_last : (ride : List Event) → IsRide ride → first_departure ride ≤ℤ last_arrival ride
first_before_last ride is =
    let long = is.long in
    is.onward 0 (length ride - 1) no_event (omega (arith, long)) (omega (arith, long))

pub last_moved : (ride : List Event) (secs : ℤ) → 0 < length ride → last_arrival (map (moved secs) ride) ≡ last_arrival ride +ℤ secs
last_moved ride secs some =
    let n = length-map ride (moved secs) in
    let at = get_or-map (moved secs) ride (length ride - 1) no_event no_event (omega (arith, some)) in
    rw n (ap Event.arr at)

pub end_moved : (ride : List Event) (secs : ℤ) → 0 < length ride → last_departure (map (moved secs) ride) ≡ last_departure ride +ℤ secs
end_moved ride secs some =
    let n = length-map ride (moved secs) in
    let at = get_or-map (moved secs) ride (length ride - 1) no_event no_event (omega (arith, some)) in
    rw n (ap Event.dep at)

-- a trip departs from its first and its last stop at times of a day
pub end_within : (ride : List Event) → IsRide ride → (pos 0 ≤ℤ last_departure ride) × (last_departure ride ≤ℤ pos 359999)
end_within ride ok =
    let long = ok.long in
    let e = ok.events (length ride - 1) no_event (omega (arith, long)) in
    let since = e.since in
    let waits = e.waits in
    (omega (arith, ints, since, waits), e.latest)

pub begin_within : (ride : List Event) → IsRide ride → (pos 0 ≤ℤ first_departure ride) × (first_departure ride ≤ℤ pos 359999)
begin_within ride ok =
    let long = ok.long in
    let e = ok.events 0 no_event (omega (arith, long)) in
    let since = e.since in
    let waits = e.waits in
    (omega (arith, ints, since, waits), e.latest)

-- from the start on with which it arrives at a time it arrives no earlier
from_time : (limit last first time : ℤ) (start least : ℕ) → time ≡ (limit +ℤ first) -ℤ last → IsFromZero time least
    → nat_le least start ≡ not (int_lt (last +ℤ (pos start -ℤ first)) limit)
from_time limit last first time start least is at =
    elim (cases_Bool (int_lt (pos 0) time)) [
      | inl t ↦
          let same = at.same (grind (arith, ints, t)) in
          grind (arith, ints, nat_tests, is, same)
      | inr f ↦
          let low : time ≤ℤ pos 0 = grind (arith, ints, f) in
          let none = at.none low in
          grind (arith, ints, nat_tests, is, none, low)
    ]

-- before the start with which it departs at a time it departs earlier
until_time : (limit end last first time : ℤ) (start most : ℕ) → end ≡ limit +ℤ pos 1 → time ≡ (end +ℤ first) -ℤ last → IsFromZero time most
    → nat_lt start most ≡ not (int_lt limit (last +ℤ (pos start -ℤ first)))
until_time limit end last first time start most e is at =
    elim (cases_Bool (int_lt (pos 0) time)) [
      | inl t ↦
          let same = at.same (grind (arith, ints, t)) in
          grind (arith, ints, nat_tests, e, is, same)
      | inr f ↦
          let low : time ≤ℤ pos 0 = grind (arith, ints, f) in
          let none = at.none low in
          grind (arith, ints, nat_tests, e, is, none, low)
    ]

-- from a start on a trip of the day before arrives after midnight
pub shown_from : (ride : List Event) (time : ℤ) (least : ℕ) → IsRide ride → time ≡ (pos 86400 +ℤ first_departure ride) -ℤ last_arrival ride → IsFromZero time least
    → (start : ℕ) → nat_le least start ≡ is_shown day.Before (starting_at ride start)
shown_from ride time least ok is at start =
    let long = ok.long in
    rw (last_moved ride (pos start -ℤ first_departure ride) (omega (arith, long))) (from_time (pos 86400) (last_arrival ride) (first_departure ride) time start least is at)

-- before a start a trip of a later day is over in time
pub shown_until : (ride : List Event) (time : ℤ) (most : ℕ) → IsRide ride → time ≡ ((pos 360000 -ℤ pos 86400) +ℤ first_departure ride) -ℤ last_departure ride → IsFromZero time most
    → (start : ℕ) → nat_lt start most ≡ is_shown day.After (starting_at ride start)
shown_until ride time most ok is at start =
    let long = ok.long in
    rw (end_moved ride (pos start -ℤ first_departure ride) (omega (arith, long))) (until_time (pos 273599) (pos 360000 -ℤ pos 86400) (last_departure ride) (first_departure ride) time start most (omega (arith, ints)) is at)

pub shown_until_second : (ride : List Event) (time : ℤ) (most : ℕ) → IsRide ride → time ≡ ((pos 360000 -ℤ pos 172800) +ℤ first_departure ride) -ℤ last_departure ride → IsFromZero time most
    → (start : ℕ) → nat_lt start most ≡ is_shown day.SecondAfter (starting_at ride start)
shown_until_second ride time most ok is at start =
    let long = ok.long in
    rw (end_moved ride (pos start -ℤ first_departure ride) (omega (arith, long))) (until_time (pos 187199) (pos 360000 -ℤ pos 172800) (last_departure ride) (first_departure ride) time start most (omega (arith, ints)) is at)

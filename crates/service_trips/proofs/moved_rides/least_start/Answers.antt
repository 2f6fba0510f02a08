use Rattle.std.proofs.Common.{refl, arith}
use Rattle.std.proofs.lemmas.Int.{ints}
use Rattle.service_trips.proofs.moved_rides.least_start.Goals as goal

pub returns-then-time-gt0 : goal.returns-then-time-gt0
returns-then-time-gt0 c =
    let some = c.if-time-gt0.true in
    let value = c.unsigned_abs.ensures.value in
    rw (← c.midnight_start-time.ensures)
    (record { none = λ low. absurd (grind (arith, ints, some, low)); same = λ h. grind (arith, ints, some, value) })

pub returns-else-time-gt0 : goal.returns-else-time-gt0
returns-else-time-gt0 c =
    let none = c.if-time-gt0.false in
    rw (← c.midnight_start-time.ensures) (record { none = λ low. refl; same = λ h. omega (arith, ints, none, h) })

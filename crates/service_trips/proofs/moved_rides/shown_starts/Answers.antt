use Rattle.std.proofs.Common.{refl}
use Rattle.service_trips.proofs.RideTimes.{shown_from, shown_until, shown_until_second}
use Rattle.service_trips.proofs.moved_rides.shown_starts.Goals as goal

pub returns-in-Before : goal.returns-in-Before
returns-in-Before c = λ start. rw c.in-Before.is (shown_from c.args.ride.now _ c.least_start.result c.requires refl c.least_start.ensures start)

pub returns-in-After : goal.returns-in-After
returns-in-After c = λ start. rw c.in-After.is (shown_until c.args.ride.now _ c.late_start.result c.requires refl (let e = c.late_start.ensures in rw c.in-After.is at e) start)

pub returns-in-SecondAfter : goal.returns-in-SecondAfter
returns-in-SecondAfter c = λ start.
    rw c.in-SecondAfter.is
    (shown_until_second c.args.ride.now _ c.late_start-in-SecondAfter.result c.requires refl (let e = c.late_start-in-SecondAfter.ensures in rw c.in-SecondAfter.is at e) start)

use Rattle.std.proofs.Common.{◌+◌, ◌*◌, arith}
use Rattle.service_trips.specs.ServiceDay.{trip_starting_at}
use Rattle.service_trips.specs.Starts.{is_in}
use Rattle.service_trips.specs.TimetableTrips.{reckoned}
use Rattle.service_trips.proofs.ByStarts.{start_below, one_more, starts_done}
use Rattle.service_trips.proofs.by_starts.add_starts.Goals as goal

pub overflow_add-start : goal.overflow_add-start
overflow_add-start c =
    let below = start_below (is_in c.shown_starts.result) c.starts_in-starts.result.first c.starts_in-starts.result.count c.loop-k.k c.args.frequency.now c.starts_in-starts.ensures.starts c.loop-k-test.true in
    let end = c.requires.good.end in
    omega (arith, below, end)

pub overflow_cast-start-in-loop-k-2 : goal.overflow_cast-start-in-loop-k-2
overflow_cast-start-in-loop-k-2 c =
    let below = start_below (is_in c.shown_starts.result) c.starts_in-starts.result.first c.starts_in-starts.result.count c.loop-k.k c.args.frequency.now c.starts_in-starts.ensures.starts c.loop-k-test.true in
    let end = c.requires.good.end in
    omega (arith, below, end)

pub trip_starting_at-requires-clause-start : goal.trip_starting_at-requires-clause-start
trip_starting_at-requires-clause-start c =
    let below = start_below (is_in c.shown_starts.result) c.starts_in-starts.result.first c.starts_in-starts.result.count c.loop-k.k c.args.frequency.now c.starts_in-starts.ensures.starts c.loop-k-test.true in
    let end = c.requires.good.end in
    omega (arith, below, end)

pub loop-k-preserved : goal.loop-k-preserved
loop-k-preserved c =
    one_more (λ k. reckoned c.args.day (trip_starting_at c.args.id.now c.args.ride.now (c.starts_in-starts.result.first + k * c.args.frequency.now.headway))) _ c.loop-k.trips.items c.push.new.self.items c.loop-k.k c.in_ok-trip.trip
    c.loop-k.invariant c.in_ok-push.ensures.items c.in_ok-trip.ensures

pub returns : goal.returns
returns c =
    let done = c.loop-k-test.false in
    let most = c.loop-k.auto.k-end in
    starts_done c.args.day c.args.id.now c.args.ride.now c.args.frequency.now c.shown_starts.result c.starts_in-starts.result.first c.starts_in-starts.result.count c.loop-k.k _ c.loop-k.trips.items
    c.shown_starts.ensures c.starts_in-starts.ensures.starts (omega (arith, done, most)) c.loop-k.invariant

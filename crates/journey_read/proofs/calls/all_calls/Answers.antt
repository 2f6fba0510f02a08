use Rattle.std.proofs.Common.{◌≡◌, ◌+◌, length, sym, subst, arith}
use Rattle.std.specs.Prelude.{IfSome}
use Rattle.journey_read.specs.Calls.{HoldsCalls}
use Rattle.journey_read.proofs.CallLists.{HaveFirst, all_trips, no_trips_yet, one_trip_more}
use Rattle.journey_read.proofs.calls.all_calls.Goals as goal

pub loop-t-init : goal.loop-t-init
loop-t-init c = subst (HaveFirst c.args.table.now.trips 0) (sym c.new-calls.ensures.items) (no_trips_yet c.args.table.now.trips)

pub loop-t-preserved : goal.loop-t-preserved
loop-t-preserved c =
    let trips = c.args.table.now.trips in
    let found = c.in_ok-calls_of.field-0 in
    subst (HaveFirst trips (c.loop-t.t + 1)) (sym c.in_ok-push.ensures.items)
    (one_trip_more trips c.loop-t.t c.loop-t.calls.items found c.loop-t.invariant (subst (λ es. IfSome found (HoldsCalls es)) c.events.ensures c.in_ok-calls_of.ensures))

pub returns : goal.returns
returns c =
    let trips = c.args.table.now.trips in
    let all : length trips ≡ c.loop-t.t = omega (arith, c.trip_count-t-end.ensures, c.loop-t-test.false, c.loop-t.auto.t-end) in
    all_trips trips c.loop-t.t c.loop-t.calls.items all c.loop-t.invariant

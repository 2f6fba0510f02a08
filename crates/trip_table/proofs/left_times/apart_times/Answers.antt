use Rattle.std.proofs.Common.{◌<◌, length, arith, ap}
use Rattle.std.specs.Prelude.{not}
use Rattle.std.proofs.lemmas.List.Elements.{All-filter}
use Rattle.service_trips.specs.Times.{HasFileTimes}
use Rattle.service_trips.specs.declared.stop_time.StopTime.{StopTime}
use Rattle.tb_base.proofs.Lists.{length-filter_le}
use Rattle.trip_table.specs.LeftFeed.{is_among}
use Rattle.trip_table.proofs.GoneSteps.{marks_made}
use Rattle.trip_table.proofs.left_times.apart_times.Goals as goal

pub leave_trips-requires-2 : goal.leave_trips-requires-2
leave_trips-requires-2 c =
    rw (c.in_ok-named.ensures.left, c.rows-count.ensures.rows)
    (All-filter (λ r. not (is_among c.in-Ok.found.items r)) (λ r. StopTime.trip_row r < length c.args.trips.now) c.in-Ok-good_times.rows.items c.in-Ok-good_times.ensures.trips)

pub returns-clause-times : goal.returns-clause-times
returns-clause-times c =
    let rows = c.in-Ok-good_times.rows.items in
    let named = All-filter (λ r. not (is_among c.in-Ok.found.items r)) HasFileTimes rows c.in-Ok-good_times.ensures.times in
    rw (c.in_ok-apart.ensures.left, c.in_ok-named.ensures.left) (All-filter (λ r. not (is_among c.in_ok-doubled.doubled.items r)) HasFileTimes _ named)

pub returns-clause-few : goal.returns-clause-few
returns-clause-few c =
    let few = c.in-Ok-good_times.ensures.few in
    let first = ap length c.in_ok-named.ensures.left in
    let second = ap length c.in_ok-apart.ensures.left in
    let less = length-filter_le (λ r. not (is_among c.in-Ok.found.items r)) c.in-Ok-good_times.rows.items in
    let fewer = length-filter_le (λ r. not (is_among c.in_ok-doubled.doubled.items r)) c.in_ok-named.named.rows.items in
    omega (arith, few, first, second, less, fewer)

pub returns-clause-gone : goal.returns-clause-gone
returns-clause-gone c =
    marks_made (length c.args.trips.now) c.in-Ok.found.items c.in_ok-doubled.doubled.items c.in-Ok-good_times.rows.items c.in_ok-named.named.rows.items c.in_ok-gone.gone.items c.in_ok-named.named.gone.items c.in_ok-apart.apart.gone.items _ _ c.in-Ok.ensures c.in-Ok-good_times.ensures.rows
    c.in_ok-named.ensures.left (rw c.as_slice.ensures.value at c.in_ok-doubled.ensures) (rw c.rows-count.ensures.rows at c.in_ok-gone.ensures) c.in_ok-named.ensures.gone c.in_ok-apart.ensures.gone

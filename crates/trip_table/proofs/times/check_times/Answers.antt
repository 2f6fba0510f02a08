use Rattle.std.proofs.Common.{◌∙◌, ◌<◌, ◌≤◌, length, get_or, arith}
use Rattle.std.proofs.lemmas.List.{length-set, get_or_default}
use Rattle.trip_table.proofs.NextInOrder.{IsNext, is_there, passes, below_more}
use Rattle.trip_table.proofs.times.check_times.Goals as goal

pub loop-row-preserved : goal.loop-row-preserved
loop-row-preserved c =
    let there = is_there c.args.stops.now c.args.trips.now c.row-item.result c.in-None.ensures in
    let many = c.loop-row.invariant.trips in
    let within : c.row-item.result.trip_row < length c.loop-row.least.items = omega (arith, there, many) in
    let above : get_or c.loop-row.least.items c.row-item.result.trip_row 0 ≤ c.row-item.result.sequence = omega (arith, c.index.ensures, c.if-row-index.false, get_or_default c.loop-row.least.items c.row-item.result.trip_row c.index.result.now 0 within) in
    let next : IsNext c.args.stops.now c.args.trips.now c.loop-row.least.items c.args.rows.now c.loop-row.row-index c.row-item.result =
    record { below = c.loop-row.invariant.below; within = c.loop-row-test.true; here = c.row-item.is; good = c.in-None.ensures; above = above } in
    record {
      trips = length-set c.loop-row.least.items _ _ ∙ many;
      below = below_more _ _ _ _ _ _ next within;
      right = c.loop-row.invariant.right ∙ passes _ _ _ _ _ _ next;
    }

use Rattle.std.proofs.Common.{arith, ◌≡◌, length, map}
use Rattle.late_edit.proofs.NearStops.{near_from}
use Rattle.late_edit.proofs.near.near_stops.Goals as goal

pub returns : goal.returns
returns c =
    let inv = c.loop-number.invariant in
    let all : length c.args.table.now.stops ≡ c.loop-number.number = omega (arith, c.loop-number-test.false, c.loop-number.auto.number-end, c.stop_count-number-end.ensures) in
    near_from c.args.table.now (map (λ row. row.items) c.args.doubts.now) c.in_ok-marks.marks.items c.loop-number.near.items c.in_ok-marks.ensures
    (omega (arith, inv.long, all))
    (λ p inside. inv.near p (omega (arith, inside, all)))

use Rattle.std.proofs.Common.{◌≡◌, ◌-◌, ◌+◌, ◌<◌, length, subst, sym, arith}
use Rattle.std.proofs.lemmas.Option.{get_or_from_slice_get}
use Rattle.late_edit.proofs.Finds.{FindsFrom, finds_more}
use Rattle.late_edit.proofs.first_trips.FirstTrips.of.Goals as goal

pub loop-t-preserved : goal.loop-t-preserved
loop-t-preserved c =
    let trips = c.args.table.now.trips in
    let names = c.args.names.now in
    let t = c.loop-t.t - 1 in
    let below : t < length trips = omega (arith, c.loop-t-test.true, c.loop-t.auto.t, c.trip_count-count.ensures) in
    let next : c.loop-t.t ≡ t + 1 = omega (arith, c.loop-t-test.true) in
    let x = c.trip-trip.result.now in
    finds_more names c.loop-t.first c.note_named.new.self trips t x below (sym (get_or_from_slice_get trips t x x c.trip-trip.ensures.trip)) (subst (FindsFrom c.loop-t.first names trips) next c.loop-t.invariant) c.in-Ok.ensures

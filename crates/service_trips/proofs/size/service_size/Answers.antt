use Rattle.std.proofs.Common.{◌≡◌, ◌∙◌, ap, sym, map, get_or, [], arith, Vec, Global}
use Rattle.std.proofs.lemmas.List.{get_or-map}
use Rattle.tb_base.specs.declared.table.Event.{Event}
use Rattle.service_trips.proofs.SizeSteps.{size_more, size_all}
use Rattle.service_trips.proofs.size.service_size.Goals as goal

pub loop-trip-preserved : goal.loop-trip-preserved
loop-trip-preserved c = λ rows.
    let at : c.deref.result.now ≡ get_or (map (λ (ride : Vec Event Global). ride.items) c.args.rides.now) c.loop-trip.trip [] =
    c.deref.ensures.value ∙ ap (λ (ride : Vec Event Global). ride.items) c.index-rides-trip.is
    ∙ sym (get_or-map (λ (ride : Vec Event Global). ride.items) c.args.rides.now c.loop-trip.trip c.index-rides-trip.result [] c.loop-trip-test.true) in
    size_more c.args.day (record { rows = rows; rides = map (λ (ride : Vec Event Global). ride.items) c.args.rides.now; frequencies = c.args.table.now.rows }) c.args.runs.now c.loop-trip.trip c.deref.result.now
    c.loop-trip.size c.row_size.result c.plus-size.result at c.plus-size.ensures (c.loop-trip.invariant rows) c.row_size.ensures

pub returns : goal.returns
returns c = λ rows same.
    let done = c.loop-trip-test.false in
    let most = c.loop-trip.auto.trip-end in
    size_all c.args.day (record { rows = rows; rides = map (λ (ride : Vec Event Global). ride.items) c.args.rides.now; frequencies = c.args.table.now.rows }) c.args.runs.now c.loop-trip.trip c.loop-trip.size
    (omega (arith, done, most, same)) (c.loop-trip.invariant rows)

use Rattle.std.proofs.Common.{◌∙◌, ◌++◌, ◌∷◌, [], ap}
use Rattle.tb_base.specs.TimetableData.{TripData}
use Rattle.tb_base.proofs.Copying.{copied, trip_is}
use Rattle.tb_base.proofs.timetable.Timetable.copy_trips.Goals as goal

pub loop-t-preserved : goal.loop-t-preserved
loop-t-preserved c =
    let view = c.trip.view_is in
    let trip = trip_is c.trip-trip.result.now c.in_ok-name.name _ c.in_ok-events.events.items (c.in_ok-name.ensures ∙ (c.bytes.ensures ∙ ap (λ (t : TripData). t.name) view))
    (ap (λ (t : TripData). t.day) view)
    (c.in_ok-events.ensures.items ∙ (c.as_slice.ensures.value ∙ ap (λ (t : TripData). t.events) view)) in
    copied c.args.self.now.trips c.loop-t.t c.trip-trip.result.now c.loop-t.trips.items c.push.new.self.items c.loop-t.invariant c.trip-trip.ensures.trip
    (c.in_ok-push.ensures.items ∙ ap (λ (t : TripData). c.loop-t.trips.items ++ t ∷ []) trip)

use Rattle.std.proofs.Common.{◌∙◌, ◌++◌, ◌∷◌, [], ap, sym}
use Rattle.tb_base.specs.TimetableData.{TripData}
use Rattle.edition_store.specs.Mirror.{mirror_events}
use Rattle.edition_store.proofs.Trips.{trip_is, trip_more}
use Rattle.edition_store.proofs.turned_trips.mirrored_trips.Goals as goal

pub loop-t-preserved : goal.loop-t-preserved
loop-t-preserved c =
    let trip = trip_is c.trip-trip.result.now c.in_ok-name.name _ c.in_ok-events.events.items (c.in_ok-name.ensures ∙ (c.bytes.ensures ∙ ap (λ (t : TripData). t.name) c.trip.view_is))
    (ap (λ (t : TripData). t.day) c.trip.view_is)
    (c.in_ok-events.ensures ∙ ap mirror_events (sym c.trip-trip.ensures.events)) in
    trip_more c.args.table.now.trips c.loop-t.t c.trip-trip.result.now c.loop-t.trips.items c.push.new.self.items c.loop-t.invariant c.trip-trip.ensures.trip
    (c.in_ok-push.ensures.items ∙ ap (λ (t : TripData). c.loop-t.trips.items ++ t ∷ []) trip)

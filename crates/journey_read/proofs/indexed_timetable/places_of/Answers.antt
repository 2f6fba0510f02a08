use Rattle.std.proofs.Common.{◌≡◌, ◌<◌, ◌∙◌, ap, length, arith}
use Rattle.tb_base.specs.TimetableData.{TripData}
use Rattle.journey_read.specs.TripNames.{name_place}
use Rattle.journey_read.proofs.TripNames.{place_added}
use Rattle.journey_read.proofs.indexed_timetable.places_of.Goals as goal

pub loop-t-preserved : goal.loop-t-preserved
loop-t-preserved c =
    let names = c.args.names.now in
    let trips = c.args.table.now.trips in
    let trip = c.trip.result.now in
    let below : c.loop-t.t < length trips = omega (arith, c.trip_count-count.ensures, c.loop-t-test.true) in
    let name : c.bytes.result.now ≡ trip.name = c.bytes.ensures ∙ ap (λ (t : TripData). t.name) c.behind-table.view_is in
    let place : c.place_of.result ≡ name_place names (length trips) trip.name = c.place_of.ensures.place ∙ ap (λ n. name_place names n c.bytes.result.now) c.trip_count-count.ensures ∙ ap (name_place names (length trips)) name in
    place_added names trips c.loop-t.t c.place_of.result trip c.loop-t.places.items _ below c.trip.ensures.trip place c.loop-t.invariant c.in_ok-push.ensures.items

use Rattle.std.proofs.Common.{◌≡◌, ◌∙◌, ap, ◌<◌, length, subst, arith}
use Rattle.std.specs.Prelude.{All}
use Rattle.tb_base.specs.TimetableData.{TimetableData}
use Rattle.journey_read.specs.Rides.{HaveRides}
use Rattle.journey_read.specs.TripNames.{name_place}
use Rattle.journey_read.proofs.TripNames.{numbers_within, rides_named}
use Rattle.journey_read.proofs.indexed_timetable.IndexedTimetable.trips_named.Goals as goal

pub returns-clause-rides : goal.returns-clause-rides
returns-clause-rides c =
    let inside = c.self.inside in
    let trips = inside.table.now.trips in
    let named : c.place_of.result ≡ name_place inside.names (length trips) c.args.name.now = c.place_of.ensures.place ∙ ap (λ n. name_place inside.names n c.args.name.now) c.trip_count.ensures in
    subst (λ (T : TimetableData). HaveRides c.args.name.now T.trips c.of.result.now) c.self.view_is
    (rides_named inside.names inside.trips trips c.self.invariant.0 c.args.name.now c.of.result.now c.place_of.result named (omega (arith, c.place_of.ensures.within, c.trip_count.ensures)) c.of.ensures)

pub returns-clause-within : goal.returns-clause-within
returns-clause-within c =
    let inside = c.self.inside in
    let trips = inside.table.now.trips in
    let named : c.place_of.result ≡ name_place inside.names (length trips) c.args.name.now = c.place_of.ensures.place ∙ ap (λ n. name_place inside.names n c.args.name.now) c.trip_count.ensures in
    subst (λ (T : TimetableData). All (λ t. t < length T.trips) c.of.result.now) c.self.view_is
    (numbers_within inside.names inside.trips trips c.self.invariant.0 c.args.name.now c.of.result.now c.place_of.result named (omega (arith, c.place_of.ensures.within, c.trip_count.ensures)) c.of.ensures)

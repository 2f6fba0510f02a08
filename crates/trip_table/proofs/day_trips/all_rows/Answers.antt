use Rattle.std.proofs.Common.{◌∙◌, ap, map}
use Rattle.gtfs_rows.specs.TripsFile.{TripData}
use Rattle.trip_table.proofs.DayTrips.{replicate_is}
use Rattle.trip_table.proofs.day_trips.all_rows.Goals as goal

pub returns-clause-answers : goal.returns-clause-answers
returns-clause-answers c =
    c.in_ok-answers.ensures.items_if_clones_equal (λ y same. same) ∙ replicate_is c.args.answer c.rows.result.now
    ∙ ap (map (λ (t : TripData). c.args.answer)) (c.rows.ensures.rows ∙ c.trips.ensures)

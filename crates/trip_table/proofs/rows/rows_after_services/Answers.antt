use Rattle.trip_table.specs.References.{rows_after_trips, trips_of_feed}
use Rattle.trip_table.proofs.FileSteps.{then_yields}
use Rattle.trip_table.proofs.rows.rows_after_services.Goals as goal

pub returns-in-Ok-clause-told : goal.returns-in-Ok-clause-told
returns-in-Ok-clause-told g c =
    then_yields (g.F.Folder.files c.args.folder.now) _ c.args.dir.now trips_of_feed (λ feed. rows_after_trips feed c.args.stops c.args.services) c.in-Ok.trips c.rows_after_trips.result c.in-Ok.ensures.leaves.files c.in-Ok.ensures.told
    c.rows_after_trips.ensures.told

use Rattle.std.proofs.Common.{◌∙◌, ap}
use Rattle.trip_table.specs.Day.{runs_if}
use Rattle.trip_table.proofs.DayTrips.{runs_given}
use Rattle.trip_table.proofs.day_trips.runs_of.Goals as goal

pub returns-clause-runs : goal.returns-clause-runs
returns-clause-runs c =
    runs_given c.args.rows.now c.args.date.now c.args.day c.in_ok-runs.runs.items (c.in_ok-runs.ensures.runs ∙ ap (runs_if c.args.rows.now) c.of_service_day.ensures)

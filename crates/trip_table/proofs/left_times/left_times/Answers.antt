use Rattle.std.specs.Prelude.{option_map}
use Rattle.trip_table.proofs.GoneSteps.{gone_given}
use Rattle.trip_table.proofs.left_times.left_times.Goals as goal

pub returns-in-Ok-clause-gone : goal.returns-in-Ok-clause-gone
returns-in-Ok-clause-gone c =
    gone_given c.args.stops.now c.args.trips.now (option_map (λ bytes. bytes.now) c.args.text) c.in-Ok.apart.rows.items c.in-Ok.apart.gone.items c.args.told.now.items c.apart_times.new.told.items (λ left. left.gone.items) c.timed_rows.result c.in-Ok.ensures.apart c.in-Ok.ensures.gone
    c.timed_rows.ensures.gone

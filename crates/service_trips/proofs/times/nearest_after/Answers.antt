use Rattle.std.proofs.Common.{◌∙◌}
use Rattle.service_trips.proofs.Timed.{first_is_later}
use Rattle.service_trips.proofs.times.nearest_after.Goals as goal

pub returns-in-None : goal.returns-in-None
returns-in-None c =
    c.requires.here ∙ first_is_later c.args.rows.now c.args.k c.index-rows-k.result c.requires.within c.index-rows-k.is c.in-None.ensures

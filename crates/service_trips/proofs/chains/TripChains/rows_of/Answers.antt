use Rattle.service_trips.proofs.ChainSteps.{back_start}
use Rattle.service_trips.proofs.chains.TripChains.rows_of.Goals as goal

pub loop-end-init : goal.loop-end-init
loop-end-init c =
    let start =
    back_start c.args.rows.now c.clear.new.self.items c.args.trip c.index-end.result.now c.args.self.now.last.items c.requires.trip
    (c.requires.chains.last c.args.trip c.requires.trip) c.index-end.ensures c.clear.ensures.items in
    record { within = start.0; own = start.1; found = start.2 }

use Rattle.service_trips.proofs.Shown.{of_date}
use Rattle.service_trips.proofs.trips.own_trip.Goals as goal

pub returns : goal.returns
returns c = of_date c.args.name c.args.events.items

use Rattle.service_trips.proofs.FrequencyRows.{trip_rows, trip_places}
use Rattle.service_trips.proofs.frequency.FrequencyTable.places.Goals as goal

pub returns-clause-rows : goal.returns-clause-rows
returns-clause-rows c = trip_rows c.self.inside.rows.items c.self.inside.by_trip c.args.self.now c.args.trip c.of.result.now c.self.invariant c.self.view_is c.requires c.of.ensures

pub returns-clause-within : goal.returns-clause-within
returns-clause-within c = trip_places c.self.inside.rows.items c.self.inside.by_trip c.args.self.now c.args.trip c.of.result.now c.self.invariant c.self.view_is c.requires c.of.ensures

use Rattle.std.proofs.Common.{rules, w32}
use Rattle.std.specs.Prelude.{FitsSigned}
use Rattle.std.proofs.lemmas.Int.{to_z-of_z}
use Rattle.service_trips.proofs.RideTimes.{end_within}
use Rattle.service_trips.proofs.moved_rides.end_of.Goals as goal

pub returns-clause-least : goal.returns-clause-least
returns-clause-least c =
    let fits : FitsSigned w32 c.last_departure.result = search rules in
    rw (to_z-of_z w32 c.last_departure.result fits, c.last_departure.ensures) (end_within c.args.ride.now c.requires).0

pub returns-clause-most : goal.returns-clause-most
returns-clause-most c =
    let fits : FitsSigned w32 c.last_departure.result = search rules in
    rw (to_z-of_z w32 c.last_departure.result fits, c.last_departure.ensures) (end_within c.args.ride.now c.requires).1

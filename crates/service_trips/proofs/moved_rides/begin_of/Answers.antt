use Rattle.std.proofs.Common.{rules, w32}
use Rattle.std.specs.Prelude.{FitsSigned}
use Rattle.std.proofs.lemmas.Int.{to_z-of_z}
use Rattle.service_trips.proofs.RideTimes.{begin_within}
use Rattle.service_trips.proofs.moved_rides.begin_of.Goals as goal

pub returns-clause-least : goal.returns-clause-least
returns-clause-least c =
    let fits : FitsSigned w32 c.first_departure.result = search rules in
    rw (to_z-of_z w32 c.first_departure.result fits, c.first_departure.ensures) (begin_within c.args.ride.now c.requires).0

pub returns-clause-most : goal.returns-clause-most
returns-clause-most c =
    let fits : FitsSigned w32 c.first_departure.result = search rules in
    rw (to_z-of_z w32 c.first_departure.result fits, c.first_departure.ensures) (begin_within c.args.ride.now c.requires).1

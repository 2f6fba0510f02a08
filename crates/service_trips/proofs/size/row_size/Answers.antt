use Rattle.std.proofs.Common.{arith}
use Rattle.std.proofs.lemmas.Bool.Decides.{nat_tests}
use Rattle.std.specs.Prelude.{filter}
use Rattle.service_trips.specs.Starts.{names_trip}
use Rattle.service_trips.proofs.SizeSteps.{row_is}
use Rattle.service_trips.proofs.size.row_size.Goals as goal

pub returns : goal.returns
returns c = λ id.
    let test = c.is_empty.ensures in
    let some = c.if-is_empty.false in
    rw c.if-not-runs.false (row_is c.args.day id (filter (names_trip c.args.trip) c.args.table.now.rows) c.args.ride.now _ (grind (arith, nat_tests, test, some)) (c.count_trips-trips.ensures id) c.saturating_mul.ensures)

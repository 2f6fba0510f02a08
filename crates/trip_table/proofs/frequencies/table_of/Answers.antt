use Rattle.trip_table.proofs.NamedRows.{known}
use Rattle.trip_table.proofs.frequencies.table_of.Goals as goal

pub new-requires-clause-trips : goal.new-requires-clause-trips
new-requires-clause-trips c =
    let ok = rw c.as_slice-2.ensures.value at c.in_default.ensures in
    rw c.rows.ensures.rows (known c.args.trips.now c.in_ok-found.found.items ok)

use Rattle.trip_table.proofs.GoodRows.{good_times}
use Rattle.trip_table.proofs.times.read_times.Goals as goal

pub returns-clause-good : goal.returns-clause-good
returns-clause-good g c =
    let h = rw c.in-Ok-Some.field-0-is at c.in-Ok-Some.ensures.some_bytes in
    let few = rw c.in-Ok-Some.field-0-is at c.in-Ok-Some.ensures.few in
    let checked = rw c.as_slice.ensures.value at c.in_ok-check_times.ensures in
    good_times c.args.stops.now c.args.trips.now h.0 c.in-Ok-Some.times.items few h.1 checked

use Rattle.trip_table.specs.LeftFeed.{left_starts}
use Rattle.trip_table.proofs.Looks.{stops}
use Rattle.trip_table.proofs.StartSteps.{onward}
use Rattle.trip_table.proofs.left_frequencies.left_frequencies.Goals as goal

pub returns-in-Ok-clause-left : goal.returns-in-Ok-clause-left
returns-in-Ok-clause-left c =
    let named = rw c.trips.ensures at c.in-Ok.ensures.left in
    onward c.args.told.now.items c.named_frequencies.new.told.items c.left_starts.new.told.items _ c.in-Ok.named.rows (left_starts c.args.rows.now) c.left_starts.result _ named c.left_starts.ensures.left

pub returns-in-Err-clause-left : goal.returns-in-Err-clause-left
returns-in-Err-clause-left c =
    let named = rw c.trips.ensures at c.in-Err.ensures.left in
    stops c.args.told.now.items c.named_frequencies.new.told.items _ (left_starts c.args.rows.now) c.in-Err.fault named

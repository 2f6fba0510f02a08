use Rattle.journey_read.proofs.TripNames.{place_below}
use Rattle.journey_read.proofs.indexed_timetable.IndexedTimetable.new.Goals as goal

pub by_key-requires-clause-keys : goal.by_key-requires-clause-keys
by_key-requires-clause-keys c =
    rw (c.as_slice.ensures.value, c.in_ok-places.ensures, c.trip_count.ensures) (place_below c.in_ok-names.names c.args.table.now.trips c.in_ok-names.ensures)

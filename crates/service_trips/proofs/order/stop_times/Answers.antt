use Rattle.service_trips.proofs.TripRows.{apart_in_trip}
use Rattle.service_trips.proofs.order.stop_times.Goals as goal

pub put_in_sequence-requires : goal.put_in_sequence-requires
put_in_sequence-requires c = rw c.in_ok-rows_of.ensures (apart_in_trip c.args.rows.now c.args.trip c.requires.sequences)

use Rattle.std.proofs.Common.{◌∙◌}
use Rattle.service_trips.proofs.BrokenSteps.{right_trip, wrong_trip}
use Rattle.service_trips.proofs.broken.broken_trips.Goals.{in-Some+in_ok-push, in_default}
use Rattle.service_trips.proofs.broken.broken_trips.Goals as goal

pub loop-trip-preserved : goal.loop-trip-preserved
loop-trip-preserved c =
    let ordered = c.deref.ensures.value ∙ c.in_ok-stop_times.ensures in
    elim c.match-trip_fault.branch [
      | in-Some+in_ok-push w ↦
          rw w.found-is (wrong_trip c.args.rows.now c.deref.result.now c.loop-trip.trip w.in-Some.fault c.loop-trip.found.items w.push.new.self.items ordered w.in-Some.ensures c.loop-trip.invariant w.in_ok-push.ensures.items)
      | in_default w ↦ rw w.found-is (right_trip c.args.rows.now c.deref.result.now c.loop-trip.trip c.loop-trip.found.items ordered w.in_default.ensures c.loop-trip.invariant)
    ]

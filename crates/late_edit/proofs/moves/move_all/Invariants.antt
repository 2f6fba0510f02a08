use Rattle.std.proofs.Common.{◌≡◌, ◌++◌, map, take, drop}
use Rattle.late_edit.specs.Amended.{delayed}
use Rattle.late_edit.proofs.moves.move_all.Given as goal

abbrev pub invariant-loop-event : goal.invariant-loop-event
invariant-loop-event l = l.events ≡ map (delayed l.late.secs) (take l.event-index l.initial.events) ++ drop l.event-index l.initial.events

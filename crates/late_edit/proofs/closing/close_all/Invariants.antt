use Rattle.std.proofs.Common.{◌≡◌, ◌++◌, map, take, drop}
use Rattle.late_edit.specs.Amended.{closed}
use Rattle.late_edit.proofs.closing.close_all.Given as goal

abbrev pub invariant-loop-event : goal.invariant-loop-event
invariant-loop-event l = l.events ≡ map closed (take l.event-index l.initial.events) ++ drop l.event-index l.initial.events

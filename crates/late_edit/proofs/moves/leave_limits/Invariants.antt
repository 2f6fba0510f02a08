use Rattle.std.proofs.Common.{◌≡◌, false, map, take}
use Rattle.std.specs.List.{list_any}
use Rattle.late_edit.specs.Amended.{has_time_outside, delayed}
use Rattle.late_edit.proofs.moves.leave_limits.Given as goal

abbrev pub invariant-loop-event : goal.invariant-loop-event
invariant-loop-event l = list_any has_time_outside (map (delayed l.late.secs) (take l.event-index l.events)) ≡ false

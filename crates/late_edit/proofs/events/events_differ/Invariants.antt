use Rattle.std.proofs.Common.{◌≡◌, drop}
use lib.Pointwise.{pointwise}
use Rattle.late_edit.specs.Touched.{same_event}
use Rattle.late_edit.proofs.events.events_differ.Given as goal

abbrev pub invariant-loop-i : goal.invariant-loop-i
invariant-loop-i l =
    pointwise same_event l.old l.new ≡ pointwise same_event (drop l.i l.old) (drop l.i l.new)

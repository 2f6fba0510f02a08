use Rattle.std.proofs.Common.{take}
use Rattle.late_edit.specs.Finding.{HaveNames}
use Rattle.late_edit.proofs.named_trips.names_of.Given as goal

abbrev pub invariant-loop-update : goal.invariant-loop-update
invariant-loop-update l = HaveNames (take l.update-index l.updates) l.names

use Rattle.std.proofs.Common.{◌≡◌, drop, None}
use Rattle.service_trips.specs.Faults.{first_wrong}
use Rattle.service_trips.specs.TimeFaults.{wrong_along}
use Rattle.service_trips.proofs.faults.fault_along.Given as goal

abbrev pub invariant-loop-row : goal.invariant-loop-row
invariant-loop-row l = first_wrong (wrong_along None l.rows) ≡ first_wrong (wrong_along l.departed (drop l.row-index l.rows))

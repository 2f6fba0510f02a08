use Rattle.std.proofs.Common.{◌≡◌, drop}
use Rattle.late_edit.specs.Amended.{amended_trips, trip_named}
use Rattle.late_edit.specs.declared.update.Update.{Update}
use Rattle.late_edit.proofs.amended_table.amended_by.Given as goal

abbrev pub invariant-loop-at : goal.invariant-loop-at
invariant-loop-at l = record {
  so_far : amended_trips l.updates l.table.trips ≡ amended_trips (drop l.at l.updates) l.trips;
  named : (u : Update) → trip_named l.trips u ≡ trip_named l.table.trips u;
}

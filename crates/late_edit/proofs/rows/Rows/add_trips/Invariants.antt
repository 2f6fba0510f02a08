use Rattle.std.proofs.Common.{◌≡◌}
use Rattle.late_edit.specs.Amending.{AreKeptRows, edition_lines}
use Rattle.late_edit.proofs.rows.Rows.add_trips.Given as goal

abbrev pub invariant-loop-t : goal.invariant-loop-t
invariant-loop-t l = record {
  labels : l.labels.table ≡ l.table;
  rows : AreKeptRows (edition_lines l.old) l.lines l.t l.self;
}

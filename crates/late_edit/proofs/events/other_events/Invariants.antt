use Rattle.std.proofs.Common.{◌≡◌, ◌<◌, ℕ, length, false}
use Rattle.std.specs.Prelude.{slice_index_or}
use Rattle.late_edit.specs.Touched.{has_other_events}
use Rattle.late_edit.proofs.events.other_events.Given as goal

abbrev pub invariant-loop-number : goal.invariant-loop-number
invariant-loop-number l = record {
  long : length l.others.items ≡ l.number;
  told : (t : ℕ) → t < l.number → slice_index_or l.others.items t false ≡ has_other_events l.old l.new t;
}

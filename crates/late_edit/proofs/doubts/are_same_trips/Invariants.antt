use Rattle.std.proofs.Common.{◌≡◌, take, false}
use Rattle.std.specs.Prelude.{All}
use Rattle.late_edit.specs.Touched.{has_other_events}
use Rattle.late_edit.proofs.doubts.are_same_trips.Given as goal

abbrev pub invariant-loop-i : goal.invariant-loop-i
invariant-loop-i l = record {
  same : take l.i l.old ≡ take l.i l.new;
  calm : All (λ u. has_other_events l.compared.before.table l.compared.after.table u ≡ false) (take l.i l.old);
}

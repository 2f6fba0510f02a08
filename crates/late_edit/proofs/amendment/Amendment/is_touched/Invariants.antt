use Rattle.std.proofs.Common.{◌≡◌, ◌<◌, ℕ, false}
use Rattle.late_edit.specs.Touched.{is_touched_at}
use Rattle.late_edit.proofs.amendment.Amendment.is_touched.Given as goal

abbrev pub invariant-loop-at : goal.invariant-loop-at
invariant-loop-at l = (i : ℕ) → i < l.at → is_touched_at l.self.before l.self.after l.trip i ≡ false

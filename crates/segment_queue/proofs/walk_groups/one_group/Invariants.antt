use Rattle.std.proofs.Common.{◌≡◌, ℕ, replicate}
use Rattle.segment_queue.proofs.walk_groups.one_group.Given as goal

abbrev pub invariant-loop-stop : goal.invariant-loop-stop
invariant-loop-stop l = l.groups.items ≡ replicate {A = ℕ} l._stop 0

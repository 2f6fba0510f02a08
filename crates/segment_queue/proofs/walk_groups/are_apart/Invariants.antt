use Rattle.std.proofs.Common.{ℕ, ◌<◌}
use Rattle.segment_queue.proofs.Settled.{IsSettled}
use Rattle.segment_queue.proofs.walk_groups.are_apart.Given as goal

abbrev pub invariant-loop-p : goal.invariant-loop-p
invariant-loop-p l = (p : ℕ) → p < l.p → IsSettled l.table l.groups p

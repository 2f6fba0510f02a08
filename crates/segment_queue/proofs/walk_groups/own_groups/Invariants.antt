use Rattle.std.proofs.Common.{◌≡◌, length}
use Rattle.segment_queue.proofs.walk_groups.own_groups.Given as goal

abbrev pub invariant-loop-stop : goal.invariant-loop-stop
invariant-loop-stop l = length l.groups.items ≡ l.stop

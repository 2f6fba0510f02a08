use Rattle.std.proofs.Common.{◌≡◌, length}
use Rattle.segment_queue.proofs.walk_groups.groups_of.Given as goal

abbrev pub invariant-loop-round : goal.invariant-loop-round
invariant-loop-round l = length l.groups.items ≡ length l.table.stops

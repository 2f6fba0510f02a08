use Rattle.std.proofs.Common.{ℕ, ◌<◌, get_or}
use Rattle.tb_base.specs.declared.table.Path.{Path}
use Rattle.segment_queue.specs.WalkGroups.{StaysIn}
use Rattle.segment_queue.proofs.walk_groups.do_stay.Given as goal

abbrev pub invariant-loop-path : goal.invariant-loop-path
invariant-loop-path l = (k : ℕ) (d : Path) → k < l.path-index → StaysIn l.groups l.group (get_or l.paths k d)

use Rattle.std.proofs.Common.{◌-◌, vec_capacity}
use Rattle.reduce_workers.proofs.Loops.{Made}
use Rattle.reduce_workers.proofs.claim.Claim.new.Given as goal

abbrev pub invariant-loop-made : goal.invariant-loop-made
invariant-loop-made l = Made l.pieces l.seats l.made (vec_capacity l.row) l.table.shared.table_id l.table.shared.key l.maker.table_id l.maker.me l.row.items

abbrev pub decreases-loop-made : goal.decreases-loop-made
decreases-loop-made l = l.seats - l.made

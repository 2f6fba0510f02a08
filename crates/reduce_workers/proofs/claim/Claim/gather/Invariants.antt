use Rattle.reduce_workers.proofs.Loops.{Joined}
use Rattle.reduce_workers.proofs.claim.Claim.gather.Given as goal

abbrev pub invariant-loop-seat : goal.invariant-loop-seat
invariant-loop-seat l = Joined l.fn.self l.table.shared.table_id l.table.shared.key l.gathered.table_id l.gathered.me l.seats.items l.all.value.items

abbrev pub decreases-loop-seat : goal.decreases-loop-seat
decreases-loop-seat l = goal.left-loop-seat l

use Rattle.std.proofs.Common.{length}
use Rattle.reduce_workers.specs.Reductions.{piece_reduced}
use Rattle.reduce_workers.proofs.Drawing.{Collects}
use Rattle.reduce_workers.proofs.places.collect.Given as goal

abbrev pub invariant-loop-one : goal.invariant-loop-one
invariant-loop-one l = Collects l.claim (piece_reduced l.table l.lines.lines) (length l.fn.brought.items) l.brought.items l.seats.items l.all.items

abbrev pub decreases-loop-one : goal.decreases-loop-one
decreases-loop-one l = length l.brought.items

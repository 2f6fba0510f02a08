use Rattle.std.proofs.Common.{◌≡◌, ◌-◌, length}
use Rattle.reduce_workers.specs.Reductions.{piece_reduced}
use Rattle.reduce_workers.specs.Seats.{drawn_of}
use Rattle.reduce_workers.proofs.Drawing.{Works}
use Rattle.reduce_workers.proofs.workers.reduce_drawn.Given as goal

abbrev pub invariant-loop-n : goal.invariant-loop-n
invariant-loop-n g l = record {
  labels : l.labels.table ≡ l.table;
  works : Works l.claim (piece_reduced l.table l.lines.lines) l.seat l.done.items;
}

abbrev pub decreases-loop-n : goal.decreases-loop-n
decreases-loop-n g l = l.claim.pieces - length (drawn_of l.seat)

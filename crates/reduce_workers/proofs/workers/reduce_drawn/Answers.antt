use Rattle.reduce_workers.specs.Reductions.{piece_reduced}
use Rattle.reduce_workers.proofs.Drawing.{works_more}
use Rattle.reduce_workers.proofs.workers.reduce_drawn.Goals as goal

pub loop-n-preserved : goal.loop-n-preserved
loop-n-preserved g c = record {
  labels = c.reduce_piece-reduced.ensures.labels;
  works = works_more c.args.claim.now (piece_reduced c.args.table.now c.args.lines.now.lines) c.loop-n.seat c.draw.new.seat c.loop-n.done.items c.push.new.self.items c.in-Some.n c.in_ok-reduced.field-0
      c.loop-n.invariant.works c.in-Some.ensures.rising c.in-Some.ensures.seat c.in_ok-reduced.ensures.reduced c.in_ok-push.ensures.items;
}

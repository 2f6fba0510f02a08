use Rattle.std.proofs.Common.{◌∙◌, ◌++◌, ◌∷◌, [], ap, length}
use Rattle.reduce_workers.specs.Reductions.{piece_reduced}
use Rattle.reduce_workers.proofs.Drawing.{collects_more}
use Rattle.reduce_workers.proofs.places.collect.Goals as goal

pub loop-one-preserved : goal.loop-one-preserved
loop-one-preserved c =
    let f = piece_reduced c.args.table.now c.args.lines.now.lines in
    let left = c.pop.new.self.items in
    let i = c.loop-one in
    let split = c.in-Some.ensures.items ∙ ap (λ b. left ++ b ∷ []) c.in_ok-seat.was in
    rw (c.in_ok-push.ensures.items, c.in_ok-append.ensures.items) (collects_more c.args.claim.now f (length c.args.brought.items) i.brought.items left i.seats.items i.all.items (c.in_ok-seat.seat, c.in_ok-seat.pieces) i.invariant split)

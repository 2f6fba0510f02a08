use Rattle.reduce_workers.proofs.Placing.{placed_more}
use Rattle.reduce_workers.proofs.places.place.Goals as goal

pub loop-n-preserved-in-Some : goal.loop-n-preserved-in-Some
loop-n-preserved-in-Some c =
    let i = c.loop-n in
    placed_more c.args.count c.args.pieces.items i.pieces.items c.pop.new.self.items i.slots.items c.in-Some.n c.in-Some.reduced i.invariant c.in-Some.ensures.items

pub loop-n-preserved : goal.loop-n-preserved
loop-n-preserved c =
    let i = c.loop-n in
    placed_more c.args.count c.args.pieces.items i.pieces.items c.pop.new.self.items i.slots.items c.in-Some.n c.in-Some.reduced i.invariant c.in-Some.ensures.items

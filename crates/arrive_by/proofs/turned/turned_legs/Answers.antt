use Rattle.std.proofs.Common.{◌∙◌, ◌++◌, ◌∷◌, [], ap}
use Rattle.arrive_by.proofs.Backwards.{leg_more}
use Rattle.arrive_by.proofs.turned.turned_legs.Goals as goal

pub loop-i-preserved : goal.loop-i-preserved
loop-i-preserved c =
    leg_more c.args.mirrored.now.table c.args.legs.now c.loop-i.i c.index-legs-back.result c.loop-i.turned.items c.push.new.self.items c.loop-i-test.true c.index-legs-back.is c.loop-i.invariant
    (c.in_ok-push.ensures.items ∙ ap (λ leg. c.loop-i.turned.items ++ leg ∷ []) c.turned_leg.ensures)

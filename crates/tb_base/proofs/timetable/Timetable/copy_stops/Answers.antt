use Rattle.std.proofs.Common.{◌∙◌, ◌++◌, ◌∷◌, [], ap}
use Rattle.tb_base.proofs.Copying.{copied}
use Rattle.tb_base.proofs.timetable.Timetable.copy_stops.Goals as goal

pub loop-p-preserved : goal.loop-p-preserved
loop-p-preserved c =
    copied c.args.self.now.stops c.loop-p.p c.stop.result.now c.loop-p.stops.items c.push.new.self.items c.loop-p.invariant c.stop.ensures
    (c.in_ok-push.ensures.items ∙ ap (λ n. c.loop-p.stops.items ++ (record { name = n }) ∷ []) (c.in_ok-name.ensures ∙ c.bytes.ensures))

use Rattle.std.proofs.Common.{length, refl, sym, subst}
use Rattle.tb_base.specs.Network.{NetData}
use Rattle.segment_queue.specs.contracts.desk.Desk.{the_view}
use Rattle.segment_queue.specs.Queue.{Fits}
use Rattle.segment_queue.proofs.InStep.{in_step-emptied}
use Rattle.segment_queue.proofs.desk.Desk.begin.Goals as goal

pub returns-clause-step : goal.returns-clause-step
returns-clause-step g c =
    let N : NetData = g.S.Scan.net c.args.scan.now in
    let fits : Fits N.table (the_view c.self.inside) = subst (Fits N.table) (sym c.self.view_is) c.requires in
    in_step-emptied N (the_view c.self.inside) (the_view (record { marks = c.begin.new.self; segments = c.clear.new.self; hits = c.clear-2.new.self; notes = c.clear-3.new.self; ahead = c.self.inside.ahead })) (length c.self.inside.marks)
    c.soundness.ensures.sound c.soundness.ensures.divided fits c.begin.ensures refl c.clear.ensures.items c.clear.ensures.capacity c.clear-2.ensures.capacity c.clear-3.ensures.capacity

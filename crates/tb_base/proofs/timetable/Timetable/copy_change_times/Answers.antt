use Rattle.std.proofs.Common.{◌<◌, length, arith}
use Rattle.tb_base.proofs.Copying.{copied, own_change}
use Rattle.tb_base.proofs.timetable.Timetable.copy_change_times.Goals as goal

pub loop-p-preserved : goal.loop-p-preserved
loop-p-preserved c =
    let inside : c.loop-p.p < length c.args.self.now.footpaths.change = omega (arith, c.loop-p-test.true, c.stop_count-p-end.ensures, c.soundness.ensures.change_times) in
    copied c.args.self.now.footpaths.change c.loop-p.p c.change.result c.loop-p.times.items c.push.new.self.items c.loop-p.invariant
    (own_change c.args.self.now c.loop-p.p c.change.result inside c.change.ensures.change) c.in_ok-push.ensures.items

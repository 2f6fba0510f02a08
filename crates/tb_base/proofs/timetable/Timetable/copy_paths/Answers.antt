use Rattle.tb_base.proofs.Copying.{row_copied}
use Rattle.tb_base.proofs.timetable.Timetable.copy_paths.Goals as goal

pub loop-p-preserved : goal.loop-p-preserved
loop-p-preserved c =
    row_copied (λ v. v.items) c.args.self.now.footpaths.paths c.loop-p.p c.in_ok-from_slice.field-0 c.paths.result.now c.loop-p.paths.items c.push.new.self.items c.loop-p.invariant c.paths.ensures.paths c.in_ok-from_slice.ensures.items c.in_ok-push.ensures.items

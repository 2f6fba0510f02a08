use Rattle.late_edit.proofs.DoubtSteps.{none_passed}
use Rattle.late_edit.proofs.doubts.pass_both.Goals as goal

pub loop-passed-init : goal.loop-passed-init
loop-passed-init c = none_passed c.args.compared.now.before c.args.compared.now.after c.args.old.now c.args.new.now c.args.doubts.now.items c.requires.fresh

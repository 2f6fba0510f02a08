use Rattle.std.proofs.Common.{subst, arith, take}
use Rattle.std.proofs.lemmas.List.{take_all}
use Rattle.late_edit.specs.Doubts.{AreDoubts}
use Rattle.late_edit.proofs.DoubtSteps.{boarding_at, new_step, old_step}
use Rattle.late_edit.proofs.doubts.pass_rest.Goals as goal

pub loop-i-preserved : goal.loop-i-preserved
loop-i-preserved c =
    let L = c.args.compared.now.before in
    let M = c.args.compared.now.after in
    let olds = c.args.old.now in
    old_step L M olds (take c.args.passed.1 c.args.new.now) c.loop-i.doubts.items c.add.new.doubts.items c.loop-i.i c.index-old-i.result c.loop-i.invariant c.loop-i-test.true c.index-old-i.is
    (boarding_at L olds c.loop-i.i c.index-old-i.result c.requires.old c.loop-i-test.true c.index-old-i.is) c.in_ok-add.ensures

pub loop-j-init : goal.loop-j-init
loop-j-init c =
    subst (λ bs. AreDoubts c.args.compared.now.before c.args.compared.now.after bs (take c.args.passed.1 c.args.new.now) c.loop-i.doubts.items) (take_all c.loop-i.i c.args.old.now c.loop-i-test.false) c.loop-i.invariant

pub loop-j-preserved : goal.loop-j-preserved
loop-j-preserved c =
    let L = c.args.compared.now.before in
    let M = c.args.compared.now.after in
    let news = c.args.new.now in
    new_step L M c.args.old.now news c.loop-j.doubts.items c.add-in-loop-j.new.doubts.items c.loop-j.j c.index-new-j.result c.loop-j.invariant c.loop-j-test.true c.index-new-j.is
    (boarding_at M news c.loop-j.j c.index-new-j.result c.requires.new c.loop-j-test.true c.index-new-j.is) c.in_ok-add-2.ensures

pub returns : goal.returns
returns c = subst (λ cs. AreDoubts c.args.compared.now.before c.args.compared.now.after c.args.old.now cs c.loop-j.doubts.items) (take_all c.loop-j.j c.args.new.now c.loop-j-test.false) c.loop-j.invariant

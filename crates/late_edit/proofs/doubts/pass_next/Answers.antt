use Rattle.std.proofs.Common.{arith, take}
use Rattle.late_edit.proofs.DoubtSteps.{alike_step, boarding_at, new_step, old_step, pair_step}
use Rattle.late_edit.proofs.doubts.pass_next.Goals as goal

pub returns-then-are_alike : goal.returns-then-are_alike
returns-then-are_alike c = record {
  doubts = record {
    old = omega (arith, c.requires.old_left);
    new = omega (arith, c.requires.new_left);
    doubts = alike_step c.args.compared.now.before c.args.compared.now.after c.args.old.now c.args.new.now c.args.doubts.now.items c.args.passed.0 c.args.passed.1 c.requires.doubts.doubts
        c.index-old-i.result c.index-new-j.result c.requires.old_left c.requires.new_left c.index-old-i.is c.index-new-j.is c.if-are_alike.ensures;
  };
  more = omega arith;
}

pub returns-in_ok-add-in-Old-clause-doubts : goal.returns-in_ok-add-in-Old-clause-doubts
returns-in_ok-add-in-Old-clause-doubts c =
    let L = c.args.compared.now.before in
    let olds = c.args.old.now in
    record {
      old = omega (arith, c.requires.old_left);
      new = c.requires.doubts.new;
      doubts = old_step L c.args.compared.now.after olds (take c.args.passed.1 c.args.new.now) c.args.doubts.now.items _ c.args.passed.0 c.index-old-i-in-Old.result c.requires.doubts.doubts
          c.requires.old_left c.index-old-i-in-Old.is (boarding_at L olds c.args.passed.0 c.index-old-i-in-Old.result c.requires.old c.requires.old_left c.index-old-i-in-Old.is) c.in_ok-add-in-Old.ensures;
    }

pub returns-in_ok-add-in-New-clause-doubts : goal.returns-in_ok-add-in-New-clause-doubts
returns-in_ok-add-in-New-clause-doubts c =
    let M = c.args.compared.now.after in
    let news = c.args.new.now in
    record {
      old = c.requires.doubts.old;
      new = omega (arith, c.requires.new_left);
      doubts = new_step c.args.compared.now.before M (take c.args.passed.0 c.args.old.now) news c.args.doubts.now.items _ c.args.passed.1 c.index-new-j-in-New.result c.requires.doubts.doubts
          c.requires.new_left c.index-new-j-in-New.is (boarding_at M news c.args.passed.1 c.index-new-j-in-New.result c.requires.new c.requires.new_left c.index-new-j-in-New.is) c.in_ok-add-in-New.ensures;
    }

pub returns-in_ok-add-in-Neither-clause-doubts : goal.returns-in_ok-add-in-Neither-clause-doubts
returns-in_ok-add-in-Neither-clause-doubts c =
    let L = c.args.compared.now.before in
    let M = c.args.compared.now.after in
    let olds = c.args.old.now in
    let news = c.args.new.now in
    let b = c.index-old-i-in-Neither in
    let d = c.index-new-j-in-Neither in
    record {
      old = omega (arith, c.requires.old_left);
      new = omega (arith, c.requires.new_left);
      doubts = pair_step L M olds news c.args.doubts.now.items c.args.passed.0 c.args.passed.1 c.requires.doubts.doubts b.result d.result _ c.requires.old_left c.requires.new_left b.is d.is
          (boarding_at L olds c.args.passed.0 b.result c.requires.old c.requires.old_left b.is) (boarding_at M news c.args.passed.1 d.result c.requires.new c.requires.new_left d.is) c.in_ok-add-in-Neither.ensures;
    }

use Rattle.std.proofs.Common.{subst, sym, arith, get_or, take}
use Rattle.std.specs.Prelude.{All}
use Rattle.std.proofs.lemmas.List.{take_all, take_more}
use Rattle.std.proofs.lemmas.List.Elements.{All-push}
use Rattle.late_edit.specs.Doubts.{IsSettled}
use Rattle.late_edit.proofs.settled.are_settled.Goals as goal

pub loop-doubt-preserved : goal.loop-doubt-preserved
loop-doubt-preserved c =
    let a = c.args.from.now in
    let xs = c.args.doubts.now in
    let k = c.loop-doubt.doubt-index in
    let x = c.doubt-item.result in
    subst (All (IsSettled c.args.compared.now.before c.args.compared.now.after a.trip a.at a.time)) (sym (take_more xs k x c.loop-doubt-test.true))
    (All-push (IsSettled c.args.compared.now.before c.args.compared.now.after a.trip a.at a.time) (take k xs) (get_or xs k x) c.loop-doubt.invariant
    (subst (IsSettled c.args.compared.now.before c.args.compared.now.after a.trip a.at a.time) c.doubt-item.is c.if-not-is_settled.ensures))

pub returns : goal.returns
returns c =
    let a = c.args.from.now in
    subst (All (IsSettled c.args.compared.now.before c.args.compared.now.after a.trip a.at a.time)) (take_all c.loop-doubt.doubt-index c.args.doubts.now c.loop-doubt-test.false) c.loop-doubt.invariant

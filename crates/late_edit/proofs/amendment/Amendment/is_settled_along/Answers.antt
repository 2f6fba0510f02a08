use Rattle.std.proofs.Common.{◌+ℤ◌, sym, subst, get_or, take, pos}
use Rattle.std.specs.Prelude.{All}
use Rattle.std.proofs.lemmas.List.{take_all, take_more}
use Rattle.std.proofs.lemmas.List.Elements.{All-push}
use Rattle.tb_base.specs.declared.table.Path.{Path}
use Rattle.late_edit.specs.declared.lined_timetable.Changing.{Changing}
use Rattle.late_edit.specs.Doubts.{AreSettled, rows_to}
use Rattle.late_edit.proofs.amendment.Amendment.is_settled_along.Goals as goal

pub loop-path-preserved : goal.loop-path-preserved
loop-path-preserved c =
    let L = c.args.self.now.before in
    let M = c.args.self.now.after in
    let t = c.args.trip in
    let i = c.args.at in
    let arr = c.args.event.now.arr in
    let fs = c.args.paths.now in
    let k = c.loop-path.path-index in
    let x = c.path-item.result in
    subst (All (λ (f : Path). AreSettled L M (rows_to L t i f.to (arr +ℤ pos f.secs)) (rows_to M t i f.to (arr +ℤ pos f.secs)))) (sym (take_more fs k x c.loop-path-test.true))
    (All-push (λ (f : Path). AreSettled L M (rows_to L t i f.to (arr +ℤ pos f.secs)) (rows_to M t i f.to (arr +ℤ pos f.secs))) (take k fs) (get_or fs k x) c.loop-path.invariant
    (subst (λ (f : Path). AreSettled L M (rows_to L t i f.to (arr +ℤ pos f.secs)) (rows_to M t i f.to (arr +ℤ pos f.secs))) c.path-item.is
    (subst (λ (g : Changing). AreSettled L M (rows_to L g.trip g.at x.to g.time) (rows_to M g.trip g.at x.to g.time)) c.changing-from.ensures c.if-not-is_settled_to.ensures)))

pub returns : goal.returns
returns c =
    let L = c.args.self.now.before in
    let M = c.args.self.now.after in
    let t = c.args.trip in
    let i = c.args.at in
    let arr = c.args.event.now.arr in
    subst (All (λ (f : Path). AreSettled L M (rows_to L t i f.to (arr +ℤ pos f.secs)) (rows_to M t i f.to (arr +ℤ pos f.secs)))) (take_all c.loop-path.path-index c.args.paths.now c.loop-path-test.false) c.loop-path.invariant

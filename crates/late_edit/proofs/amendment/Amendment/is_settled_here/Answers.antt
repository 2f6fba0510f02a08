use Rattle.std.proofs.Common.{◌≡◌, ◌∙◌, ◌+ℤ◌, Some, ap, sym, subst, pos}
use Rattle.std.specs.Prelude.{IfSome}
use Rattle.std.proofs.lemmas.Bool.{OnTrue_at, OnTrue_from}
use Rattle.tb_base.specs.Walking.{change}
use Rattle.line_split.specs.LinesData.{LinesData}
use Rattle.late_edit.specs.declared.lined_timetable.Changing.{Changing}
use Rattle.late_edit.specs.Doubts.{AreSettled, rows_to}
use Rattle.late_edit.specs.Updated.{AmendmentData}
use Rattle.late_edit.proofs.amendment.Amendment.is_settled_here.Goals as goal

pub returns-in-Some : goal.returns-in-Some
returns-in-Some c =
    let L = c.args.self.now.before in
    let M = c.args.self.now.after in
    let e = c.args.event.now in
    let own : c.table-table.result.now ≡ c.args.self.now.before.table = c.table-table.ensures ∙ (ap (λ (N : LinesData). N.table) c.before-2.ensures ∙ ap (λ (d : AmendmentData). d.before.table) c.self.view_is) in
    let changes : change c.args.self.now.before.table c.args.event.now.stop c.args.event.now.stop ≡ Some c.in-Some.secs = ap (λ T. change T e.stop e.stop) (sym own) ∙ (sym c.change.ensures.change ∙ c.in-Some.is) in
    OnTrue_from c.is_settled_to.result
    (IfSome (change L.table e.stop e.stop) (λ secs. AreSettled L M (rows_to L c.args.trip c.args.at e.stop (e.arr +ℤ pos secs)) (rows_to M c.args.trip c.args.at e.stop (e.arr +ℤ pos secs))))
    (λ h. subst (λ o. IfSome o (λ secs. AreSettled L M (rows_to L c.args.trip c.args.at e.stop (e.arr +ℤ pos secs)) (rows_to M c.args.trip c.args.at e.stop (e.arr +ℤ pos secs)))) (sym changes)
    (subst (λ (g : Changing). AreSettled L M (rows_to L g.trip g.at e.stop g.time) (rows_to M g.trip g.at e.stop g.time)) c.changing.ensures (OnTrue_at h c.is_settled_to.ensures)))

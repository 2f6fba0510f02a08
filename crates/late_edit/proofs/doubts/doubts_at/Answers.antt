use Rattle.std.proofs.Common.{subst}
use Rattle.line_split.specs.Layout.{AreBoardings}
use Rattle.line_split.specs.LinesData.{LinesData}
use Rattle.line_split.specs.LinesOf.{berths_at}
use Rattle.late_edit.proofs.DoubtSteps.{doubts_at}
use Rattle.late_edit.proofs.doubts.doubts_at.Goals as goal

pub returns : goal.returns
returns c =
    let olds = c.boardings-old.result.now in
    let news = c.boardings-new.result.now in
    doubts_at c.args.compared.now.before c.args.compared.now.after c.args.stop olds news c.pass_rest.new.doubts.items
    (subst (λ (N : LinesData). AreBoardings N.table N.lines (berths_at N.table N.lines c.args.stop) olds) c.before-2.ensures c.boardings-old.ensures)
    (subst (λ (N : LinesData). AreBoardings N.table N.lines (berths_at N.table N.lines c.args.stop) news) c.after.ensures c.boardings-new.ensures) c.in_ok-pass_rest.ensures

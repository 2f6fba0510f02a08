use Rattle.std.proofs.Common.{◌∙◌, sym, ap, subst, map}
use Rattle.std.proofs.lemmas.Result.{IfOk-weaker}
use Rattle.tb_base.specs.OutSets.{AreRowsOf}
use Rattle.reduce_workers.specs.Reductions.{ReducedData}
use Rattle.edition_build.proofs.Named.{all_named}
use Rattle.edition_build.proofs.ReportTexts.{report_listed, report_unlisted}
use Rattle.edition_build.proofs.reporting.report.Goals as goal

pub shown_build_list-text-requires : goal.shown_build_list-text-requires
shown_build_list-text-requires g c =
    let rows = ap (map (λ row. row.items)) c.as_slice.ensures.value ∙ ap (λ (r : ReducedData). r.rows) c.reduced.view_is in
    all_named c.args.table.now (λ row. row.items) c.as_slice.result.now (subst (AreRowsOf c.args.table.now) (sym rows) c.in-Ok.ensures.rows)

pub returns-then-list : goal.returns-then-list
returns-then-list g c =
    let rows = ap (map (λ row. row.items)) c.as_slice.ensures.value ∙ ap (λ (r : ReducedData). r.rows) c.reduced.view_is in
    let same = report_listed c.args.json c.args.table.now c.in_ok-lines.lines.lines c.args.list c.in-Ok.reduced c.in-Ok.ensures.reduced c.counts_of-counts.result c.counts_of-counts.ensures _ rows c.if-list.true in
    IfOk-weaker c.shown_build_list-text.result _ _ (λ text written. record { lines = c.in_ok-lines.lines.lines; are_lines = c.in_ok-lines.ensures.lines; text = written ∙ same }) c.shown_build_list-text.ensures

pub returns-else-list : goal.returns-else-list
returns-else-list g c =
    let same = report_unlisted c.args.json c.args.table.now c.in_ok-lines.lines.lines c.args.list c.in-Ok.reduced c.in-Ok.ensures.reduced c.counts_of-counts.result c.counts_of-counts.ensures c.if-list.false in
    IfOk-weaker c.shown_build.result _ _ (λ text written. record { lines = c.in_ok-lines.lines.lines; are_lines = c.in_ok-lines.ensures.lines; text = written ∙ same }) c.shown_build.ensures

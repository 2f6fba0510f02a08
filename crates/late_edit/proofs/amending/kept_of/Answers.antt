use Rattle.std.proofs.Common.{◌≡◌, ◌∙◌, ℕ, ap, length, map}
use Rattle.tb_base.specs.TimetableData.{TimetableData, events_of}
use Rattle.late_edit.specs.Amending.{RowsData, edition_lines}
use Rattle.late_edit.proofs.KeptRows.{all_touched, same_counts, table_hops, table_marks, table_rows}
use Rattle.late_edit.proofs.SameEvents.{same_length}
use Rattle.late_edit.proofs.amending.kept_of.Goals as goal

pub rebuild-requires-clause-rows : goal.rebuild-requires-clause-rows
rebuild-requires-clause-rows c =
    table_rows c.args.old.now c.args.lines.now c.args.table.now c.requires.lines c.requires.updated c.soundness.ensures c.soundness-2.ensures.divided c.in_ok-rows.rows c.in_ok-rows.ensures _ c.as_slice.result.now
    (ap (map (λ row. row.items)) c.as_slice-2.ensures.value ∙ ap (λ (r : RowsData). r.rows) c.rows.view_is) (c.as_slice.ensures.value ∙ ap (λ (r : RowsData). r.touched) c.rows.view_is)

pub rebuild-requires-clause-marks : goal.rebuild-requires-clause-marks
rebuild-requires-clause-marks c =
    table_marks c.args.old.now c.args.lines.now c.args.table.now c.requires.lines c.requires.updated c.soundness.ensures c.soundness-2.ensures.divided c.in_ok-rows.rows c.in_ok-rows.ensures _ c.as_slice.result.now
    (ap (map (λ row. row.items)) c.as_slice-2.ensures.value ∙ ap (λ (r : RowsData). r.rows) c.rows.view_is) (c.as_slice.ensures.value ∙ ap (λ (r : RowsData). r.touched) c.rows.view_is)

pub rebuild-requires-clause-trips : goal.rebuild-requires-clause-trips
rebuild-requires-clause-trips c =
    ap (λ (T : TimetableData). length T.trips) c.set.ensures.table ∙ same_length c.args.old.now.table c.args.table.now c.requires.updated

pub rebuild-requires-clause-events : goal.rebuild-requires-clause-events
rebuild-requires-clause-events c = λ t.
    ap (λ (T : TimetableData). length (events_of T t)) c.set.ensures.table ∙ same_counts c.args.old.now.table c.args.table.now c.requires.updated t

pub returns-clause-hops : goal.returns-clause-hops
returns-clause-hops c = λ t i.
    c.in_ok-set.ensures.hops t i
    ∙ table_hops c.args.old.now c.args.lines.now c.args.table.now c.requires.lines c.requires.updated c.soundness.ensures c.soundness-2.ensures.divided c.in_ok-rows.rows c.in_ok-rows.ensures _ c.as_slice.result.now
    (ap (map (λ row. row.items)) c.as_slice-2.ensures.value ∙ ap (λ (r : RowsData). r.rows) c.rows.view_is) (c.as_slice.ensures.value ∙ ap (λ (r : RowsData). r.touched) c.rows.view_is)
    c.set.result.now c.set.ensures.table c.set.ensures.kept (λ t i updated untouched. c.untouched_kept.ensures (edition_lines c.args.old.now) c.args.lines.now t i updated untouched) t i

pub returns-clause-redone : goal.returns-clause-redone
returns-clause-redone c =
    ap (λ (r : RowsData). r.redone) c.rows.view_is ∙ all_touched c.args.old.now c.args.lines.now c.args.table.now c.in_ok-rows.rows c.requires.updated c.in_ok-rows.ensures

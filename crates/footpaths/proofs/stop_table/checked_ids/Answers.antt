use Rattle.std.proofs.Common.{◌∙◌, ap, sym}
use Rattle.gtfs_rows.specs.StopsFile.{StopData}
use Rattle.footpaths.proofs.StopRows.{stop_passes, stop_twice, stop_lacks, ids_more}
use Rattle.footpaths.proofs.stop_table.checked_ids.Goals as goal

pub returns-in-Ok-false : goal.returns-in-Ok-false
returns-in-Ok-false c =
    let s = c.bytes.ensures ∙ ap (λ (t : StopData). t.id) c.row.view_is in
    let fresh = rw s at c.in-Ok-false.ensures.fresh in
    let r = ap (λ (t : StopData). t.row) c.row.view_is in
    rw r (c.loop-row.invariant.right ∙ stop_twice c.loop-row.ids c.args.rows.now c.loop-row.row-index c.row-item.result c.in-Ok-false.field-0 c.loop-row.invariant.ids c.loop-row-test.true c.row-item.is fresh c.in-Ok-false.field-0-test)

pub returns-then-lacks_parent : goal.returns-then-lacks_parent
returns-then-lacks_parent c =
    let s = c.bytes.ensures ∙ ap (λ (t : StopData). t.id) c.row.view_is in
    let fresh = rw s at c.in-Ok-true.ensures.fresh in
    let r = ap (λ (t : StopData). t.row) c.row.view_is in
    rw r (c.loop-row.invariant.right ∙ stop_lacks c.loop-row.ids c.args.rows.now c.loop-row.row-index c.row-item.result c.in-Ok-true.field-0 c.loop-row.invariant.ids c.loop-row-test.true c.row-item.is fresh c.in-Ok-true.field-0-test (sym (c.lacks_parent.ensures c.args.rows.now c.requires) ∙ c.if-lacks_parent.true))

pub loop-row-preserved : goal.loop-row-preserved
loop-row-preserved c =
    let s = c.bytes.ensures ∙ ap (λ (t : StopData). t.id) c.row.view_is in
    let fresh = rw s at c.in-Ok-true.ensures.fresh in
    let added = rw (s, c.in-Ok-true.field-0-test) at c.in-Ok-true.ensures.added in
    record {
      ids = ids_more c.loop-row.ids c.add.new.self c.args.rows.now c.loop-row.row-index c.row-item.result c.loop-row.invariant.ids c.loop-row-test.true c.row-item.is added;
      right = c.loop-row.invariant.right ∙ stop_passes c.loop-row.ids c.args.rows.now c.loop-row.row-index c.row-item.result c.in-Ok-true.field-0 c.loop-row.invariant.ids c.loop-row-test.true c.row-item.is fresh c.in-Ok-true.field-0-test (sym (c.lacks_parent.ensures c.args.rows.now c.requires) ∙ c.if-lacks_parent.false);
    }

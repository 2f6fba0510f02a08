use Rattle.std.proofs.Common.{◌∙◌, ap, refl}
use Rattle.gtfs_rows.specs.TransfersFile.{TransferData}
use Rattle.footpaths.specs.Links.{pair_number}
use Rattle.footpaths.proofs.TransferRows.{transfer_passes, transfer_twice, days_more, ends_more, mapped_more}
use Rattle.footpaths.proofs.links.check_transfers.Goals as goal

pub returns-in-Ok-false-clause-checked : goal.returns-in-Ok-false-clause-checked
returns-in-Ok-false-clause-checked c =
    let fresh = rw c.in-Ok.ensures.number.1 at c.in-Ok-false.ensures.fresh in
    let r = ap (λ (t : TransferData). t.row) c.row.view_is in
    let i = c.loop-row.invariant in
    rw r (i.right ∙ transfer_twice c.args.stops.now c.args.rows.now c.loop-row.row-index c.row-item.result c.loop-row.pairs c.in-Ok-false.field-0 c.requires c.loop-row-test.true c.row-item.is c.in-Ok.ensures.number.0 i.ends i.seen fresh c.in-Ok-false.field-0-test)

pub loop-row-preserved : goal.loop-row-preserved
loop-row-preserved c =
    let fresh = rw c.in-Ok.ensures.number.1 at c.in-Ok-true.ensures.fresh in
    let added = rw (c.in-Ok.ensures.number.1, c.in-Ok-true.field-0-test) at c.in-Ok-true.ensures.added in
    let i = c.loop-row.invariant in
    let stops = c.args.stops.now in
    let rows = c.args.rows.now in
    record {
      seen = mapped_more (pair_number stops) c.loop-row.pairs c.add.new.self rows c.loop-row.row-index c.row-item.result _ i.seen c.loop-row-test.true c.row-item.is refl added;
      ends = ends_more stops rows c.loop-row.row-index c.row-item.result i.ends c.loop-row-test.true c.row-item.is c.in-Ok.ensures.number.0;
      days = days_more rows c.loop-row.row-index c.row-item.result i.days c.loop-row-test.true c.row-item.is c.in-Ok.ensures.day;
      right = i.right ∙ transfer_passes stops rows c.loop-row.row-index c.row-item.result c.loop-row.pairs c.in-Ok-true.field-0 c.requires c.loop-row-test.true c.row-item.is c.in-Ok.ensures.number.0 i.ends i.seen fresh c.in-Ok-true.field-0-test;
    }

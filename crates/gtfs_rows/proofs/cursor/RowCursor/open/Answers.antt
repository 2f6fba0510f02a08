use Rattle.std.proofs.Common.{◌∙◌, sym}
use Rattle.gtfs_rows.proofs.Opening.{table_is}
use Rattle.gtfs_rows.proofs.cursor.RowCursor.open.Goals as goal

pub returns : goal.returns
returns c =
    table_is c.args.file c.args.bytes.now c.in_ok-records.records.left c.in_ok-records.records.current (sym c.is_text.ensures ∙ c.if-not-is_text.false) c.in_ok-records.ensures.first
    c.in_ok-positions.positions.items c.in_ok-positions.ensures

use Rattle.std.proofs.Common.{◌∙◌, sym, arith}
use Rattle.gtfs_rows.proofs.ByteMark.{mark_cut, unmarked, short}
use Rattle.gtfs_rows.proofs.records.without_mark.Goals as goal

pub returns-then-bytes-lt3 : goal.returns-then-bytes-lt3
returns-then-bytes-lt3 c = short c.args.bytes.now c.if-bytes-lt3.true

pub returns-then-is_mark : goal.returns-then-is_mark
returns-then-is_mark c = mark_cut c.args.bytes.now (omega (arith, c.if-bytes-lt3.false)) (sym c.is_mark.ensures ∙ c.if-is_mark.true)

pub returns-else-is_mark : goal.returns-else-is_mark
returns-else-is_mark c = unmarked c.args.bytes.now (sym c.is_mark.ensures ∙ c.if-is_mark.false)

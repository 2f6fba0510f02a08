use Rattle.std.proofs.Common.{◌∙◌, ap, arith, ◌++◌, pos, ◌+ℤ◌}
use Rattle.std.specs.Prelude.{filter_map}
use Rattle.std.proofs.lemmas.List.{take_all}
use Rattle.line_split.specs.Layout.{berth_of}
use Rattle.line_split.specs.LinesOf.{berths_at}
use Rattle.transfer_make.specs.ByBerth.{row_by}
use Rattle.transfer_make.proofs.ByBerth.{boarded_rows, rows_more}
use Rattle.transfer_make.proofs.hops.add_stop.Goals as goal

pub loop-boarding-preserved : goal.loop-boarding-preserved
loop-boarding-preserved c =
    rows_more (λ b. row_by c.args.lines.now.table c.args.lines.now.lines c.args.from.now.trip c.args.from.now.at (c.args.from.now.arr +ℤ pos c.args.secs) (berth_of b))
    c.boardings-boarding-items.result.now c.loop-boarding.boarding-index c.boarding-item.result c.args.rows.now.items c.loop-boarding.rows.items c.add_boarding.new.rows.items
    c.loop-boarding-test.true c.boarding-item.is c.loop-boarding.invariant c.in_ok-add_boarding.ensures

pub returns : goal.returns
returns c =
    let T = c.args.lines.now.table in
    let lines = c.args.lines.now.lines in
    let from = c.args.from.now in
    let items = c.boardings-boarding-items.result.now in
    let time = c.args.from.now.arr +ℤ pos c.args.secs in
    c.loop-boarding.invariant
    ∙ ap (λ bs. c.args.rows.now.items ++ filter_map (λ b. row_by T lines from.trip from.at time (berth_of b)) bs) (take_all c.loop-boarding.boarding-index items (omega arith))
    ∙ ap (λ ys. c.args.rows.now.items ++ ys) (boarded_rows T lines from.trip from.at time (berths_at T lines c.args.stop) items c.boardings-boarding-items.ensures)

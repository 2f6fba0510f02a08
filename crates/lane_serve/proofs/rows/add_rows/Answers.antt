use Rattle.std.proofs.Common.{◌∙◌, ◌++◌, List, ℕ, ap, sym, append_assoc, flat_map}
use Rattle.tb_base.specs.Transfers.{numbers_below}
use Rattle.reach_all.proofs.Lines.{lines_more}
use Rattle.lane_serve.specs.Rows.{csv_row}
use Rattle.lane_serve.proofs.rows.add_rows.Goals as goal

pub loop-stop-preserved : goal.loop-stop-preserved
loop-stop-preserved c =
    let row = csv_row c.args.table.now c.args.origin.now c.args.departures c.args.figures.now in
    let before : List ℕ = flat_map row (numbers_below c.loop-stop.stop) in
    c.in_ok-add_row.ensures ∙ ap (λ text. text ++ row c.loop-stop.stop) c.loop-stop.invariant ∙ append_assoc c.args.text.now before (row c.loop-stop.stop) ∙ ap (λ l. c.args.text.now ++ l) (sym (lines_more row c.loop-stop.stop))

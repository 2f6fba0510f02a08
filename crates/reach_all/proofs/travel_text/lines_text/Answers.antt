use Rattle.std.proofs.Common.{◌∙◌, ◌++◌, sym, ap}
use Rattle.reach_all.specs.TimesText.{times_line}
use Rattle.reach_all.proofs.Lines.{lines_more}
use Rattle.reach_all.proofs.travel_text.lines_text.Goals as goal

pub loop-stop-preserved : goal.loop-stop-preserved
loop-stop-preserved c =
    let line = times_line c.args.table.now c.args.departures c.args.figures.now in
    c.in_ok-add_line.ensures ∙ ap (λ text. text ++ line c.loop-stop.stop) c.loop-stop.invariant ∙ sym (lines_more line c.loop-stop.stop)

use Rattle.std.proofs.Common.{◌≡◌, ◌∙◌, ◌<◌, ap, length, ◌++◌, arith}
use Rattle.std.proofs.lemmas.Grind.{common_steps}
use Rattle.line_split.specs.Layout.{line_departures}
use Rattle.line_split.proofs.DepartureLemmas.{lines_more, starts_more}
use Rattle.line_split.proofs.departures.departures_of.Goals as goal

pub loop-line-preserved : goal.loop-line-preserved
loop-line-preserved c =
    let inv = c.loop-line.invariant in
    let inside : c.loop-line.line < length c.args.lines.now = omega (arith, c.len-line-end.ensures, c.loop-line-test.true) in
    let long : c.len.result ≡ length c.loop-line.departures.items = grind (arith, common_steps) in
    record {
      starts = starts_more (line_departures c.args.table.now) c.args.lines.now c.loop-line.line c.len.result c.loop-line.starts.items c.push.new.self.items inv.starts c.in_ok-push.ensures.items (long ∙ ap length inv.departures);
      departures = lines_more (line_departures c.args.table.now) c.args.lines.now c.loop-line.line c.loop-line.departures.items c.add_line.new.departures.items inside inv.departures
          (c.in_ok-add_line.ensures ∙ ap (λ row. c.loop-line.departures.items ++ line_departures c.args.table.now row) c.row.ensures);
    }

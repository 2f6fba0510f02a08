use Rattle.std.proofs.Common.{◌≡◌, ◌∙◌, ◌++◌, ◌<◌, ap, length, arith}
use Rattle.std.proofs.lemmas.Grind.{common_steps}
use Rattle.line_split.proofs.DepartureLemmas.{lines_more, starts_more}
use Rattle.line_split.proofs.onward.in_one.Goals as goal

pub loop-line-preserved : goal.loop-line-preserved
loop-line-preserved c =
    let inv = c.loop-line.invariant in
    let inside : c.loop-line.line < length c.args.lines.now = omega (arith, c.len-line-end.ensures, c.loop-line-test.true) in
    let long : c.len.result ≡ length c.loop-line.trips.items = grind (arith, common_steps) in
    record {
      starts = starts_more (λ xs. xs) c.args.lines.now c.loop-line.line c.len.result c.loop-line.starts.items c.push.new.self.items inv.starts c.in_ok-push.ensures.items (long ∙ ap length inv.trips);
      trips = lines_more (λ xs. xs) c.args.lines.now c.loop-line.line c.loop-line.trips.items c.extend_from_slice.new.self.items inside inv.trips
          (c.in_ok-extend_from_slice.ensures.items ∙ ap (λ row. c.loop-line.trips.items ++ row) c.row.ensures);
    }

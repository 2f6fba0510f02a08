use Rattle.std.proofs.Common.{◌∙◌, ◌+◌, ◌<◌, sym, ap, subst, arith, length}
use Rattle.std.specs.Prelude.{All}
use Rattle.std.proofs.lemmas.List.{length_push}
use Rattle.line_split.specs.Layout.{AreBoardings}
use Rattle.line_split.specs.LinesOf.{IsBerth, berths_at}
use Rattle.line_split.proofs.BerthLemmas.{berths_inside, rows_pushed}
use Rattle.line_split.proofs.boardings.boardings_of.Goals as goal

pub boarded-requires-clause-berths : goal.boarded-requires-clause-berths
boarded-requires-clause-berths c =
    let stop : c.loop-stop.stop < length c.args.table.now.stops = omega (arith, c.loop-stop-test.true, c.len-stop-end.ensures, c.requires.stops) in
    subst (All (IsBerth c.args.table.now c.args.lines.now)) (sym (c.row.ensures ∙ c.requires.berths c.loop-stop.stop stop)) (berths_inside c.args.table.now c.args.lines.now c.loop-stop.stop)

pub loop-stop-preserved : goal.loop-stop-preserved
loop-stop-preserved c =
    let T = c.args.table.now in
    let lines = c.args.lines.now in
    let inv = c.loop-stop.invariant in
    let stop : c.loop-stop.stop < length c.args.table.now.stops = omega (arith, c.loop-stop-test.true, c.len-stop-end.ensures, c.requires.stops) in
    record {
      long = ap length c.in_ok-open_row.ensures ∙ length_push c.loop-stop.boardings c.in_ok-row.row.items ∙ ap (λ n. n + 1) inv.long;
      rows = rows_pushed (λ q row. AreBoardings T lines (berths_at T lines q) row) c.loop-stop.boardings c.open_row.new.self c.in_ok-row.row.items c.loop-stop.stop inv.long c.in_ok-open_row.ensures inv.rows
          (subst (λ bs. AreBoardings T lines bs c.in_ok-row.row.items) (c.row.ensures ∙ c.requires.berths c.loop-stop.stop stop) c.in_ok-row.ensures);
    }

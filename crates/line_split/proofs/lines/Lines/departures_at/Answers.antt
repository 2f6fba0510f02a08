use Rattle.std.proofs.Common.{◌≡◌, ◌∙◌, ap, arith, ◌+◌, ◌*◌, ◌<◌, length, [], get_or, vec_len, take, drop}
use Rattle.std.proofs.lemmas.Grind.{common_steps}
use Rattle.std.proofs.lemmas.List.FromFn.{length-map-range_with_len}
use Rattle.line_split.specs.Layout.{LinesLayout, start_of}
use Rattle.line_split.specs.LinesOf.{line_events}
use Rattle.line_split.proofs.DepartureLemmas.{run_in}
use Rattle.line_split.proofs.lines.Lines.departures_at.Goals as goal

pub index-requires-3 : goal.index-requires-3
index-requires-3 c =
    let lines = c.self.inside.lines in
    let line : c.args.line < length c.self.inside.lines = rw (← c.self.view_is) at c.requires.line in
    let starts : length c.self.inside.starts.items ≡ length c.self.inside.lines = ap length c.self.invariant.starts ∙ length-map-range_with_len (start_of c.self.inside.table.value lines) 0 (length lines) in
    let same : vec_len c.self.inside.starts ≡ length c.self.inside.starts.items = grind (arith, common_steps) in
    omega (arith, starts, same, c.index-2.ensures, line)

pub run-requires : goal.run-requires
run-requires c =
    let s = c.self.inside in
    let layout : LinesLayout = record { lines = s.lines; places = s.places.items; in_order = s.in_order.items; runs = s.runs.items; before = s.before.items; berths = s.berths; boardings = s.boardings; starts = s.starts.items; departures = s.departures.items } in
    let line : c.args.line < length c.self.inside.lines = rw (← c.self.view_is) at c.requires.line in
    let at : c.args.at < length (line_events c.self.inside.table.value (get_or c.self.inside.lines c.args.line [])) = rw (← c.self.view_is) at c.requires.at in
    let start = c.index-3.ensures ∙ ap (λ i. get_or s.starts.items i c.index-3.result.now) c.index-2.ensures in
    let count = ap length c.row-count.ensures ∙ ap (λ i. length (get_or s.lines i [])) c.index.ensures in
    let run = run_in s.table.value layout c.args.line c.args.at c.index-3.result.now (length c.row-count.result.now) c.self.invariant line at start count in
    omega (arith, run.within, ap length c.as_slice-departures.ensures.value)

pub returns : goal.returns
returns c =
    let s = c.self.inside in
    let layout : LinesLayout = record { lines = s.lines; places = s.places.items; in_order = s.in_order.items; runs = s.runs.items; before = s.before.items; berths = s.berths; boardings = s.boardings; starts = s.starts.items; departures = s.departures.items } in
    let line : c.args.line < length c.self.inside.lines = rw (← c.self.view_is) at c.requires.line in
    let at : c.args.at < length (line_events c.self.inside.table.value (get_or c.self.inside.lines c.args.line [])) = rw (← c.self.view_is) at c.requires.at in
    let start = c.index-3.ensures ∙ ap (λ i. get_or s.starts.items i c.index-3.result.now) c.index-2.ensures in
    let count = ap length c.row-count.ensures ∙ ap (λ i. length (get_or s.lines i [])) c.index.ensures in
    let run = run_in s.table.value layout c.args.line c.args.at c.index-3.result.now (length c.row-count.result.now) c.self.invariant line at start count in
    rw (← c.self.view_is) (c.run.ensures ∙ ap (λ ds. take (length c.row-count.result.now) (drop (c.index-3.result.now + c.args.at * length c.row-count.result.now) ds)) c.as_slice-departures.ensures.value ∙ run.is)

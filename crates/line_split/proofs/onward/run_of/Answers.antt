use Rattle.std.proofs.Common.{◌≡◌, ◌∙◌, ◌+◌, [], ap, arith, get_or, length}
use Rattle.std.proofs.lemmas.List.FromFn.{length-map-range_with_len}
use Rattle.line_split.specs.Layout.{order_start}
use Rattle.line_split.proofs.RunLemmas.{line_fits, start_read}
use Rattle.line_split.proofs.onward.run_of.Goals as goal

pub bounds-starts-line : goal.bounds-starts-line
bounds-starts-line c = omega (arith, c.index-line.ensures, c.requires.line, ap length c.requires.starts, length-map-range_with_len (order_start c.args.lines.now) 0 (length c.args.lines.now))

pub overflow_add-end : goal.overflow_add-end
overflow_add-end c =
    let start = start_read c.args.lines.now c.args.starts.now c.args.place.0 c.index-line.result c.requires.starts c.index-line.ensures c.requires.line in
    let row : length c.row.result.now ≡ length (get_or c.args.lines.now c.args.place.0 []) = ap length c.row.ensures ∙ ap (λ l. length (get_or c.args.lines.now l [])) c.index-line.ensures in
    omega (arith, start, row, line_fits c.args.lines.now c.args.place.0 c.requires.line, c.requires.fits)

pub overflow_cast-result : goal.overflow_cast-result
overflow_cast-result c =
    let start = start_read c.args.lines.now c.args.starts.now c.args.place.0 c.index-line.result c.requires.starts c.index-line.ensures c.requires.line in
    omega (arith, start, line_fits c.args.lines.now c.args.place.0 c.requires.line, c.requires.fits)

pub overflow_add-result : goal.overflow_add-result
overflow_add-result c =
    let start = start_read c.args.lines.now c.args.starts.now c.args.place.0 c.index-line.result c.requires.starts c.index-line.ensures c.requires.line in
    omega (arith, start, line_fits c.args.lines.now c.args.place.0 c.requires.line, c.requires.fits, c.requires.place)

pub overflow_cast-result-2 : goal.overflow_cast-result-2
overflow_cast-result-2 c =
    let start = start_read c.args.lines.now c.args.starts.now c.args.place.0 c.index-line.result c.requires.starts c.index-line.ensures c.requires.line in
    let row : length c.row.result.now ≡ length (get_or c.args.lines.now c.args.place.0 []) = ap length c.row.ensures ∙ ap (λ l. length (get_or c.args.lines.now l [])) c.index-line.ensures in
    omega (arith, start, row, line_fits c.args.lines.now c.args.place.0 c.requires.line, c.requires.fits)

pub returns-clause-from : goal.returns-clause-from
returns-clause-from c = ap (λ s. s + c.args.place.1) (start_read c.args.lines.now c.args.starts.now c.args.place.0 c.index-line.result c.requires.starts c.index-line.ensures c.requires.line)

pub returns-clause-to : goal.returns-clause-to
returns-clause-to c =
    let start = start_read c.args.lines.now c.args.starts.now c.args.place.0 c.index-line.result c.requires.starts c.index-line.ensures c.requires.line in
    let row : length c.row.result.now ≡ length (get_or c.args.lines.now c.args.place.0 []) = ap length c.row.ensures ∙ ap (λ l. length (get_or c.args.lines.now l [])) c.index-line.ensures in
    omega (arith, start, row)

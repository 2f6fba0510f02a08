use Rattle.std.proofs.Common.{rules, ◌≡◌, ◌∙◌, ap, arith, ◌+◌, ◌*◌, ◌<◌, length, [], get_or}
use Rattle.std.proofs.lemmas.List.FromFn.{length-map-range_with_len}
use Rattle.line_split.specs.Layout.{start_of}
use Rattle.line_split.proofs.DepartureLemmas.{run_of, start_of_line}
use Rattle.line_split.proofs.boardings.boarding_at.Goals as goal

pub offset_bounds-starts-index : goal.offset_bounds-starts-index
offset_bounds-starts-index c =
    let long : length c.args.starts.now ≡ length c.args.lines.now = ap length c.requires.starts ∙ length-map-range_with_len (start_of c.args.table.now c.args.lines.now) 0 (length c.args.lines.now) in
    let inside : c.index-2.result < length c.args.starts.now = omega (arith, long, c.index-2.ensures, c.requires.berth.line) in
    search rules

pub bounds-starts-index : goal.bounds-starts-index
bounds-starts-index c =
    let long : length c.args.starts.now ≡ length c.args.lines.now = ap length c.requires.starts ∙ length-map-range_with_len (start_of c.args.table.now c.args.lines.now) 0 (length c.args.lines.now) in
    omega (arith, long, c.index-2.ensures, c.requires.berth.line)

pub run_start-requires : goal.run_start-requires
run_start-requires c =
    let T = c.args.table.now in
    let lines = c.args.lines.now in
    let b = c.args.berth.now in
    let start = ap (λ i. get_or c.args.starts.now i 0) c.index-2.ensures ∙ start_of_line T lines c.args.starts.now b.line c.requires.starts c.requires.berth.line in
    let count = ap length c.row-count.ensures ∙ ap (λ i. length (get_or lines i [])) c.index.ensures in
    (run_of T lines b.line b.at (get_or c.args.starts.now c.index-2.result 0) (length c.row-count.result.now) c.args.departures.now c.requires.berth.line c.requires.berth.at start count c.requires.departures).within

pub returns-clause-boarding : goal.returns-clause-boarding
returns-clause-boarding c =
    let T = c.args.table.now in
    let lines = c.args.lines.now in
    let b = c.args.berth.now in
    let start = ap (λ i. get_or c.args.starts.now i 0) c.index-2.ensures ∙ start_of_line T lines c.args.starts.now b.line c.requires.starts c.requires.berth.line in
    let count = ap length c.row-count.ensures ∙ ap (λ i. length (get_or lines i [])) c.index.ensures in
    record {
      berth = c.requires.berth;
      boarded = c.requires.boarded;
      start = c.run_start.ensures ∙ (λ i. start i + b.at * count i);
      count = count;
    }

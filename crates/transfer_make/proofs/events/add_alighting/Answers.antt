use Rattle.std.proofs.Common.{◌≡◌, ◌∙◌, ap, subst, map, ◌++◌, ◌-◌, ◌<◌, length, take, drop, flat_map, arith}
use Rattle.tb_base.specs.TimetableData.{TimetableData}
use Rattle.tb_base.specs.Transfers.{candidates}
use Rattle.tb_laws.proofs.CandidateLaws.{stop_inside}
use Rattle.tb_laws.specs.Rows.{transfer_by_hop}
use Rattle.line_split.proofs.RowLemmas.{on_ok_subst}
use Rattle.transfer_make.specs.ByBerth.{rows_at}
use Rattle.transfer_make.proofs.ByBerth.{alighting_rows}
use Rattle.transfer_make.proofs.events.add_alighting.Goals as goal

pub returns : goal.returns
returns c =
    let T = c.args.table.now in
    let lines = c.args.lines.now.lines in
    let from = c.args.from.now in
    let paths = c.paths-paths.result.now in
    let below = c.paths_below-below.result in
    let at_stop = stop_inside T c.soundness.ensures from.trip from.at c.requires.from.trip c.requires.from.event in
    let inside : c.args.stop < length c.args.table.now.stops = omega (arith, c.requires.stop, at_stop) in
    let before : c.add_paths.new.rows.items ≡ c.args.rows.now.items ++ flat_map (λ f. rows_at c.args.table.now c.args.lines.now.lines c.args.from.now.trip c.args.from.now.at f.to f.secs c.args.from.now.arr) (take c.paths_below-below.result c.paths-paths.result.now)
    = subst (λ (T : TimetableData). c.add_paths.new.rows.items ≡ c.args.rows.now.items ++ flat_map (λ f. rows_at T lines from.trip from.at f.to f.secs from.arr) (take below paths)) c.requires.lines c.in_ok-add_paths.ensures in
    on_ok_subst c.add_paths-2.result (λ rows. rows ≡ c.args.rows.now.items ++ map (transfer_by_hop from.trip from.at) (candidates T lines from.trip from.at)) c.add_paths-2.new.rows.items _ c.add_paths-2.ensures
    (ap (λ (T : TimetableData). c.add_own.new.rows.items ++ flat_map (λ f. rows_at T lines from.trip from.at f.to f.secs from.arr) (take (length paths - below) (drop below paths))) c.requires.lines
    ∙ alighting_rows T lines from.trip from.at c.args.stop below paths c.requires.stop c.paths-paths.ensures.paths inside
    c.paths-paths.ensures.ascending c.paths-paths.ensures.sound c.paths_below-below.ensures.below c.paths_below-below.ensures.from c.requires.from.later c.requires.alights
    from.arr c.requires.from.arr c.args.rows.now.items c.add_paths.new.rows.items c.add_own.new.rows.items before c.in_ok-add_own.ensures)

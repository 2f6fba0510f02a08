use Rattle.std.proofs.Common.{rules, ◌≡◌, ◌∙◌, ◌<◌, ap, ◌+◌, length, true, arith}
use Rattle.std.specs.Prelude.{filter_map, is_ok}
use Rattle.footpaths.specs.Footpaths.{paths_from}
use Rattle.tb_base.specs.TimetableData.{FootpathData}
use Rattle.foot_close.specs.Shortest.{closure_of}
use Rattle.foot_close.specs.Tables.{path_of, reached_from}
use Rattle.foot_close.specs.Closing.{footpath_total}
use Rattle.foot_close.proofs.ClosedLaws.{closure_has, total_more, total_part}
use Rattle.foot_close.proofs.TableLaws.{row_length, row_paths, rows_push}
use Rattle.foot_close.proofs.table.reach_all.Goals as goal

pub other_stops-requires : goal.other_stops-requires
other_stops-requires c = omega (arith, ap length c.deref.ensures.value, ap length c.in_ok-row.ensures.reached, row_length c.args.given.now c.loop-from.from, c.requires.few)

pub returns-then-total-gt2000000 : goal.returns-then-total-gt2000000
returns-then-total-gt2000000 c =
    let P = c.args.given.now in
    let from = c.loop-from.from in
    let others : c.other_stops.result ≡ length (paths_from (length P.change) (closure_of P) from) = c.other_stops.ensures ∙ (ap (λ rs. length (filter_map (path_of from) rs)) (c.deref.ensures.value ∙ c.in_ok-row.ensures.reached) ∙ ap length (row_paths P from)) in
    let many = ap (λ (x : FootpathData). length x.change) c.given.view_is in
    let inside : from < length P.change = omega (arith, many, c.len-count.ensures, c.loop-from-test.true) in
    closure_has P (λ closed. 2000000 < footpath_total P closed) c.requires (omega (arith, c.if-total-gt2000000.true, c.from-total.ensures, others, c.loop-from.invariant.total, total_more P from, total_part P (from + 1) (omega (arith, inside))))

pub loop-from-preserved : goal.loop-from-preserved
loop-from-preserved c =
    let P = c.args.given.now in
    let from = c.loop-from.from in
    let others : c.other_stops.result ≡ length (paths_from (length P.change) (closure_of P) from) = c.other_stops.ensures ∙ (ap (λ rs. length (filter_map (path_of from) rs)) (c.deref.ensures.value ∙ c.in_ok-row.ensures.reached) ∙ ap length (row_paths P from)) in
    let good : is_ok c.push.result ≡ true = search rules in
    let items = rw good at c.push.ensures.items in
    record {
      fresh = c.in_ok-row.ensures.fresh;
      rows = rows_push (λ row. row.items) (reached_from P) c.loop-from.rows.items c.push.new.self.items c.in_ok-row.row from c.loop-from.invariant.rows items c.in_ok-row.ensures.reached;
      total = omega (arith, c.loop-from.invariant.total, c.from-total.ensures, others, total_more P from);
      few = omega arith;
    }

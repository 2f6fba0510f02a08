use Rattle.std.proofs.Common.{◌≡◌, ◌∙◌, ◌+◌, ◌≤◌, sym, ap, subst, length, arith}
use Rattle.tb_base.specs.TimetableData.{TimetableData}
use Rattle.tb_base.specs.Transfers.{kept_hops, transfers_of}
use Rattle.reduce_workers.specs.Reductions.{count_from}
use Rattle.reduce_workers.proofs.Counts.{kept_most}
use Rattle.reduce_workers.proofs.MoreTrips.{one_more_count}
use Rattle.late_edit.specs.Touched.{is_touched}
use Rattle.late_edit.specs.Amending.{AreKeptRows, edition_lines}
use Rattle.late_edit.proofs.KeptRows.{redone_le, trip_added}
use Rattle.late_edit.proofs.rows.Rows.add_trips.Goals as goal

pub add-requires-clause-kept : goal.add-requires-clause-kept
add-requires-clause-kept c =
    let T = c.args.table.now in
    let L = c.args.lines.now in
    let t = c.loop-t.t in
    let inside : 0 + (t + 1) ≤ length T.trips = omega (arith, c.loop-t-test.true, c.trip_count-t-end.ensures) in
    let few = kept_most T L c.requires.lines c.soundness.ensures c.soundness-2.ensures.lines c.soundness-2.ensures.divided 0 (t + 1) inside in
    let at : 0 + t ≡ t = omega arith in
    let more = one_more_count T (kept_hops T L.lines) 0 t t at in
    let kept = c.loop-t.invariant.rows.kept ∙ ap (λ (U : TimetableData). count_from U (kept_hops U L.lines) 0 t) c.requires.lines in
    omega (arith, few, more, c.in_ok-row.ensures.kept, kept)

pub add-requires-clause-redone : goal.add-requires-clause-redone
add-requires-clause-redone c =
    let few = redone_le (edition_lines c.args.old.now) c.args.lines.now c.loop-t.t in
    omega (arith, few, c.loop-t.invariant.rows.redone, c.loop-t-test.true, c.trip_count-t-end.ensures, c.soundness.ensures.trips)

pub loop-t-preserved : goal.loop-t-preserved
loop-t-preserved c =
    let L = edition_lines c.args.old.now in
    let M = c.args.lines.now in
    let t = c.loop-t.t in
    record {
      labels = c.trip_row.ensures.labels;
      rows = trip_added L M t c.loop-t.self c.add.new.self c.in_ok-row.row.items c.in_ok-touched.touched c.in_ok-row.kept c.loop-t.invariant.rows c.in_ok-add.ensures c.in_ok-row.ensures.row
          (c.in_ok-row.ensures.kept ∙ ap (λ (U : TimetableData). length (transfers_of U (kept_hops U M.lines t) t)) (sym c.requires.lines))
          (c.in_ok-touched.ensures ∙ (λ i. is_touched (c.requires.before i) (c.requires.after i) t));
    }

pub returns : goal.returns
returns c =
    let all : c.loop-t.t ≡ length c.args.table.now.trips = omega (arith, c.loop-t-test.false, c.loop-t.auto.t-end, c.trip_count-t-end.ensures) in
    subst (λ n. AreKeptRows (edition_lines c.args.old.now) c.args.lines.now n c.loop-t.self) all c.loop-t.invariant.rows

use Rattle.std.proofs.Common.{◌≡◌, ◌∙◌, ◌<◌, length, sym, ap, subst, arith}
use Rattle.tb_base.specs.TimetableData.{TimetableData, event_total}
use Rattle.segment_queue.specs.Scans.{line_indices_at}
use Rattle.segment_queue.proofs.LineViews.{berths_count, indices_le_events}
use Rattle.segment_queue.proofs.view.ViewScan.berths.Goals as goal

pub at-requires : goal.at-requires
at-requires c =
    let inside : c.args.p < length c.self.inside.table.now.stops = rw (← c.self.view_is) at c.requires in
    subst (λ (T : TimetableData). c.args.p < length T.stops) (sym c.self.invariant.0) inside

pub overflow_cast-result : goal.overflow_cast-result
overflow_cast-result c =
    let T = c.self.inside.lines.now.table in
    let lines = c.self.inside.lines.now.lines in
    omega (
      arith,
      ap length c.at.ensures,
      berths_count T lines c.args.p,
      indices_le_events T lines c.args.p c.soundness.ensures.lines c.soundness.ensures.divided,
      ap event_total c.self.invariant.0,
      c.soundness-2.ensures.events,
    )

pub returns : goal.returns
returns c =
    let T = c.self.inside.lines.now.table in
    let lines = c.self.inside.lines.now.lines in
    let long : length c.at.result.now ≡ length (line_indices_at T lines c.args.p) = ap length c.at.ensures ∙ berths_count T lines c.args.p in
    rw (← c.self.view_is) (long ∙ ap (λ t. length (line_indices_at t lines c.args.p)) c.self.invariant.0)

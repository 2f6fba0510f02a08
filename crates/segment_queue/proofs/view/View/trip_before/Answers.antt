use Rattle.std.proofs.Common.{◌<◌, length, subst}
use Rattle.std.specs.Prelude.{MatchOption}
use Rattle.tb_base.specs.TimetableData.{TimetableData}
use Rattle.segment_queue.specs.Scans.{IsFirst, StandsBefore}
use Rattle.segment_queue.proofs.LineViews.{found_before}
use Rattle.segment_queue.proofs.view.View.trip_before.Goals as goal

pub returns : goal.returns
returns c =
    let lines = c.self.inside.lines.now.lines in
    rw (← c.self.view_is) (
    subst (λ (T : TimetableData). MatchOption c.before-2.result (IsFirst lines c.args.trip) (λ v. (v < length T.trips) × StandsBefore lines v c.args.trip)) c.self.invariant.0
    (found_before lines c.args.trip (length c.self.inside.lines.now.table.trips) c.before-2.result c.soundness.ensures.divided.once c.soundness.ensures.divided.trips c.before-2.ensures)
    )

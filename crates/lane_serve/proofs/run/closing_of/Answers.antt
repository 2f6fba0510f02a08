use Rattle.std.proofs.Common.{◌∙◌, sym, ap, subst, length}
use Rattle.history.specs.Lists.{Shown, StartsWith}
use Rattle.edition_store.specs.Editions.{EditionData}
use Rattle.lane_serve.specs.Lanes.{IsClosing, to_close}
use Rattle.lane_serve.specs.Script.{LaneData}
use Rattle.lane_serve.proofs.Runs.{runs_length, runs_more}
use Rattle.lane_serve.proofs.Reports.{served_closing}
use Rattle.lane_serve.proofs.run.closing_of.Goals as goal

pub close_lane-requires-clause-replies : goal.close_lane-requires-clause-replies
close_lane-requires-clause-replies g c =
    let lines = c.args.lane.now.lines in
    let same = c.as_slice.ensures.value ∙ ap (λ (k : LaneData). k.lines) c.lane.view_is in
    runs_length c.args.caller.now.kept.list 1 0 lines c.args.replies.now c.requires.run ∙ ap length (sym same)

pub returns-in-Ok : goal.returns-in-Ok
returns-in-Ok g c =
    let lines = c.args.lane.now.lines in
    let last = c.args.last.now in
    let replies = c.args.replies.now in
    let same = c.as_slice.ensures.value ∙ ap (λ (k : LaneData). k.lines) c.lane.view_is in
    let known = subst (λ (s : Shown EditionData). StartsWith s.list c.args.caller.now.kept.list) c.in-Ok.ensures.whole c.close_lane.ensures.later.0 in
    served_closing last c.args.lane.now replies c.in-Ok.closing.items c.report_of.result
    (runs_more last c.args.caller.now.kept.list known 1 0 lines replies c.requires.run)
    (subst (λ qs. IsClosing last (to_close 1 qs replies) c.in-Ok.closing.items) same c.in-Ok.ensures.closing)
    c.report_of.ensures

use Rattle.std.proofs.Common.{◌≤◌, sym, ap, subst, length}
use Rattle.std.specs.Prelude.{All}
use Rattle.lane_serve.specs.Lanes.{IsLaneRun}
use Rattle.query_gate.specs.Said.{IsAskable}
use Rattle.lane_serve.specs.Script.{LaneData}
use Rattle.lane_serve.proofs.Reports.{few_requests, good_times, read_lines}
use Rattle.lane_serve.proofs.run.run_seated.Goals as goal

pub run_lane-requires-clause-few : goal.run_lane-requires-clause-few
run_lane-requires-clause-few g c κs within =
    let l = c.index-lanes-i.result in
    let same = read_lines _ c.lane.inside.lines.items l c.args.lanes.now c.args.i l c.as_slice-requests.ensures.value
    (ap (λ (k : LaneData). k.lines) c.lane.view_is) c.requires.lane c.index-lanes-i.is in
    subst (λ q. length q ≤ 20000) (sym same) (few_requests c.args.lanes.now c.args.i l c.requires.lanes c.requires.lane)

pub run_lane-requires-clause-times : goal.run_lane-requires-clause-times
run_lane-requires-clause-times g c κs within =
    let l = c.index-lanes-i.result in
    let same = read_lines _ c.lane.inside.lines.items l c.args.lanes.now c.args.i l c.as_slice-requests.ensures.value
    (ap (λ (k : LaneData). k.lines) c.lane.view_is) c.requires.lane c.index-lanes-i.is in
    subst (λ q. All IsAskable q) (sym same) (good_times c.args.lanes.now c.args.i l c.requires.lanes c.requires.lane)

pub returns-in-Ok : goal.returns-in-Ok
returns-in-Ok g c d =
    let l = c.index-lanes-i.result in
    let same = read_lines _ c.lane.inside.lines.items l c.args.lanes.now c.args.i d c.as_slice-requests.ensures.value
    (ap (λ (k : LaneData). k.lines) c.lane.view_is) c.requires.lane c.index-lanes-i.is in
    subst (λ q. IsLaneRun c.run_lane.new.caller.kept.list q c.in-Ok.replies.items) same c.in-Ok.ensures.run

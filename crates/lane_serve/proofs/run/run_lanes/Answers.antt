use denote.Param.Send.{sendable}
use Rattle.std.proofs.Common.{subst, slice_index_or, arith, rules}
use Rattle.lane_serve.specs.Script.{LaneData}
use Rattle.lane_serve.specs.Served.{HasRun}
use Rattle.lane_serve.proofs.Sent.{seated_send}
use Rattle.lane_serve.proofs.run.run_lanes.Goals as goal

pub for_each_mut-requires-send-T : goal.for_each_mut-requires-send-T
for_each_mut-requires-send-T g c κs within = search (seated_send, sendable) depth 40 fits 100000

pub returns : goal.returns
returns g c = record {
  run = record {
    len = search rules;
    at = λ i l d lt.
        let k = (c.for_each_mut.ensures i d (let e = c.requires.seats in omega arith)).1 in
        subst (λ s. HasRun (LaneData.lines (slice_index_or c.args.lanes.now i l)) s.caller.kept s.replies) k.left (k.call l);
  };
}

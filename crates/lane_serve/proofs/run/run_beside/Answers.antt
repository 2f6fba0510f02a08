use mathlib.Core.List.{[]}
use mir.Syntax.{erased, of_param}
use denote.Param.{param}
use denote.Param.Send.{mut_slice_send, shr_send, shr_slice_send}
use Rattle.std.proofs.Crossing as heap
use Rattle.lane_serve.proofs.Sent.{captures_send, lane_sync, seated_send}
use Rattle.query_gate.proofs.Sent.{quiet_either}
use Rattle.lane_serve.proofs.run.run_beside.Goals as goal

pub join_mut-done-requires-send-F : goal.join_mut-done-requires-send-F
join_mut-done-requires-send-F g c κs within = record {
  owned = (captures_send _ _ _ _ _ (shr_send erased _ _ c.type_bounds.sync-R) (shr_send erased [] _ heap.sync) (shr_send erased _ _ c.type_bounds.sync-G)
      (shr_slice_send erased _ _ lane_sync) (mut_slice_send erased [] _ (seated_send (param 0 g.row.J) g.J.Naming))).owned;
  leaving = λ k. quiet_either (k (of_param 1)) _ (λ x w. (tt, (tt, (tt, (tt, (tt, tt))))));
}

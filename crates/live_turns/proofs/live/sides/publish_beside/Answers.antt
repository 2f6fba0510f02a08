use mathlib.Core.List.{[]}
use mir.Syntax.{erased, of_param}
use denote.Param.{param}
use denote.Param.Send.{mut_send, shr_send, shr_slice_send}
use Rattle.std.proofs.Crossing as heap
use Rattle.edition_store.proofs.Sent.{shared_send}
use Rattle.live_turns.proofs.Sent.{giver_send, taker_send}
use Rattle.live_turns.proofs.LiveSent.{building_sync, eleven_send, item_send, item_sync, mark_sync, news_send, slot_send}
use Rattle.query_gate.proofs.Sent.{quiet_either}
use Rattle.live_turns.specs.contracts.live.news.News as news
use Rattle.edition_build.specs.contracts.plan.PlanItem as item
use Rattle.live_turns.proofs.live.sides.publish_beside.Goals as goal

pub join_mut-requires-send-F : goal.join_mut-requires-send-F
join_mut-requires-send-F g c κs within = record {
  owned = (eleven_send _ _ _ _ _ _ _ _ _ _ _
      (shr_send erased _ _ c.type_bounds.sync-R) (shr_send erased [] _ heap.sync) (shr_send erased _ _ c.type_bounds.sync-G) (shr_send erased _ _ building_sync)
      (shr_slice_send erased _ _ item_sync) (mut_send erased [] _ c.type_bounds.send-F) (mut_send erased [] _ (slot_send _ c.type_bounds.send-P))
      (mut_send erased [] _ (taker_send item.the_row (param 2 g.row.K) g.K.Naming item_send)) (mut_send erased [] _ (giver_send news.the_row (param 3 g.row.L) g.L.Naming news_send)) (mut_send erased [] _ shared_send) (shr_send erased [] _ (mark_sync (param 1 g.row.E)))).owned;
  leaving = λ k. quiet_either (k (of_param 1)) _ (λ x w. (tt, (tt, (tt, (tt, (tt, (tt, (tt, (tt, (tt, (tt, tt)))))))))));
}

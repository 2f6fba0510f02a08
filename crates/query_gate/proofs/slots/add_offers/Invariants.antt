use Rattle.std.proofs.Common.{◌≡◌, ℕ, List, ◌++◌, map, take}
use Rattle.std.specs.Prelude.{All}
use Rattle.tb_base.specs.Profiles.{OfferData}
use Rattle.tb_base.specs.declared.transfer.Hop.{Hop}
use Rattle.segment_queue.specs.declared.desk.Hit.{Hit}
use Rattle.segment_queue.specs.Traced.{UsesHops}
use Rattle.query_gate.specs.Slots.{IsShown, slots_at}
use Rattle.query_gate.proofs.slots.add_offers.Given as goal

abbrev pub invariant-loop-hit : goal.invariant-loop-hit
invariant-loop-hit l = record {
  slots : map OfferData.slot l.offers.items ≡ map OfferData.slot l.initial.offers.items ++ slots_at l.query.leave l.later (map (λ (h : Hit). h.value) (take l.hit-index l.desk.hits));
  shown : (hops : ℕ → ℕ → List Hop) → UsesHops hops l.desk.segments → All (IsShown l.table l.query.from l.query.to hops) l.initial.offers.items → All (IsShown l.table l.query.from l.query.to hops) l.offers.items;
}

use Rattle.std.proofs.Common.{◌≡◌, ◌+◌, ◌<◌, ◌≤◌, ◌⊎◌, length, take, None}
use Rattle.std.specs.Prelude.{All, IsSomeAnd, slice_index_or}
use Rattle.tb_base.specs.declared.transfer.Hop.{Hop}
use Rattle.transfer_pack.specs.Words.{lent}
use Rattle.segment_queue.specs.Scans.{HoldOpen}
use Rattle.segment_queue.proofs.marks.Marks.open_places.Given as goal

abbrev pub invariant-loop-place : goal.invariant-loop-place
invariant-loop-place l = record {
  long : length l.places ≡ length l.initial.places;
  upto : l.place ≤ l.to;
  few : l.count + l.from ≤ l.place;
  within : All (λ k. k < l.place) (take l.count l.places);
  left : HoldOpen (λ (h : Hop). IsSomeAnd (slice_index_or l.self h.trip None) (λ m. m ≤ h.at) ⊎ (10000000 ≤ h.at)) (lent l.hops) l.from l.place (take l.count l.places);
}

use Rattle.std.proofs.Common.{◌≡◌, ◌+◌, ◌<◌, ◌≤◌, length, take}
use Rattle.std.specs.Prelude.{All}
use Rattle.tb_base.specs.declared.transfer.Hop.{Hop}
use Rattle.transfer_pack.specs.Words.{lent}
use Rattle.segment_queue.specs.Levels.{level_mark}
use Rattle.segment_queue.specs.Scans.{HoldOpen}
use Rattle.earliest_query.proofs.sweeping.open_places.Given as goal

abbrev pub invariant-loop-place : goal.invariant-loop-place
invariant-loop-place g l = record {
  long : length l.places ≡ length l.initial.places;
  upto : l.place ≤ l.to;
  few : l.count + l.from ≤ l.place;
  within : All (λ k. k < l.place) (take l.count l.places);
  left : HoldOpen (λ (h : Hop). level_mark (g.S.Scan.net l.scan).table l.levels l.level h.trip ≤ h.at) (lent l.hops) l.from l.place (take l.count l.places);
}

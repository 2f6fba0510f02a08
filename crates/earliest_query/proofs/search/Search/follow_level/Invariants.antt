use Rattle.std.proofs.Common.{◌≡◌, ℕ, suc, ◌-◌, ◌<◌, ◌≤◌, length, Some}
use Rattle.std.specs.Prelude.{slice_get}
use Rattle.tb_base.specs.declared.transfer.Hop.{Hop}
use Rattle.segment_queue.specs.Queue.{Fits}
use Rattle.earliest_query.specs.Sweeping.{IsSweptQueue}
use Rattle.earliest_query.specs.UnderWay.{AddsSegments, IsReachedBy}
use Rattle.transfer_pack.specs.Words.{lent}
use Rattle.earliest_query.proofs.search.Search.follow_level.Given as goal

abbrev pub invariant-loop-from : goal.invariant-loop-from
invariant-loop-from g l = record {
  queue : IsSweptQueue (g.S.Scan.net l.self.scan.now) l.self.query.now l.desk l.levels;
  levels : length l.levels ≡ length l.fn.levels;
  extends : AddsSegments l.fn.desk l.desk (suc l.level);
  still : Fits (g.S.Scan.net l.self.scan.now).table l.fn.desk → Fits (g.S.Scan.net l.self.scan.now).table l.desk;
  places : length l.places ≡ length l.fn.places;
  within : l.from ≤ length (lent l.followed.hops);
  reached : (k : ℕ) (h : Hop) → k < l.from → slice_get (lent l.followed.hops) k ≡ Some h → IsReachedBy (g.S.Scan.net l.self.scan.now).table l.desk (length l.desk.segments) (suc l.level) h.trip h.at;
}

abbrev pub decreases-loop-from : goal.decreases-loop-from
decreases-loop-from g l = l.count - l.from

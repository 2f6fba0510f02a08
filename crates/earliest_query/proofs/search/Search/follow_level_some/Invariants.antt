use Rattle.std.proofs.Common.{◌≡◌, ℕ, suc, ◌<◌, length, get_or, Some}
use Rattle.std.specs.Prelude.{slice_get}
use Rattle.tb_base.specs.declared.transfer.Hop.{Hop}
use Rattle.transfer_pack.specs.Words.{lent}
use Rattle.segment_queue.specs.Queue.{Fits}
use Rattle.earliest_query.specs.Sweeping.{IsSweptQueue}
use Rattle.earliest_query.specs.UnderWay.{AddsSegments, IsReachedBy}
use Rattle.earliest_query.proofs.search.Search.follow_level_some.Given as goal

abbrev pub invariant-loop-k : goal.invariant-loop-k
invariant-loop-k g l = record {
  queue : IsSweptQueue (g.S.Scan.net l.self.scan.now) l.self.query.now l.desk l.levels;
  levels : length l.levels ≡ length l.initial.levels;
  extends : AddsSegments l.initial.desk l.desk (suc l.level);
  still : Fits (g.S.Scan.net l.self.scan.now).table l.initial.desk → Fits (g.S.Scan.net l.self.scan.now).table l.desk;
  reached : (j : ℕ) (h : Hop) → j < l.k → slice_get (lent l.followed.hops) (get_or l.places j 0) ≡ Some h → IsReachedBy (g.S.Scan.net l.self.scan.now).table l.desk (length l.desk.segments) (suc l.level) h.trip h.at;
}

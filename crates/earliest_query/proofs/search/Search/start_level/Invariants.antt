use Rattle.std.proofs.Common.{ℕ, ◌<◌, get_or}
use Rattle.segment_queue.specs.Queue.{Fits}
use Rattle.earliest_query.specs.Sweeping.{IsSweptQueue, IsWalkedFrom}
use Rattle.earliest_query.specs.UnderWay.{AddsSegments}
use Rattle.earliest_query.proofs.search.Search.start_level.Given as goal

abbrev pub invariant-loop-origin : goal.invariant-loop-origin
invariant-loop-origin g l = record {
  queue : IsSweptQueue (g.S.Scan.net l.self.scan.now) l.self.query.now l.desk l.levels;
  extends : AddsSegments l.initial.desk l.desk 1;
  walked : (k d : ℕ) → k < l.origin-index → IsWalkedFrom (g.S.Scan.net l.self.scan.now).table l.self.query.now l.desk (get_or l.origin-items k d);
  still : Fits (g.S.Scan.net l.self.scan.now).table l.initial.desk → Fits (g.S.Scan.net l.self.scan.now).table l.desk;
}

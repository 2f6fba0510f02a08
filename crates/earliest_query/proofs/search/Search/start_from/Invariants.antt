use Rattle.std.proofs.Common.{ℕ, ◌<◌, get_or}
use Rattle.tb_base.specs.declared.table.Path.{Path}
use Rattle.segment_queue.specs.Queue.{Fits}
use Rattle.earliest_query.specs.Sweeping.{IsSweptQueue}
use Rattle.earliest_query.specs.UnderWay.{AddsSegments, IsStopBoarded}
use Rattle.earliest_query.proofs.search.Search.start_from.Given as goal

abbrev pub invariant-loop-path : goal.invariant-loop-path
invariant-loop-path g l = record {
  queue : IsSweptQueue (g.S.Scan.net l.self.scan.now) l.self.query.now l.desk l.levels;
  extends : AddsSegments l.fn.desk l.desk 1;
  own : IsStopBoarded (g.S.Scan.net l.self.scan.now).table l.self.query.now l.desk l.fn.origin 0;
  boarded : (k : ℕ) (d : Path) → k < l.path-index → IsStopBoarded (g.S.Scan.net l.self.scan.now).table l.self.query.now l.desk (get_or l.path-items k d).to (get_or l.path-items k d).secs;
  still : Fits (g.S.Scan.net l.self.scan.now).table l.fn.desk → Fits (g.S.Scan.net l.self.scan.now).table l.desk;
}

use Rattle.std.proofs.Common.{◌≡◌, ℕ, ◌<◌, length, get_or, pos, ◌+ℤ◌}
use Rattle.std.specs.Prelude.{Some}
use Rattle.tb_base.specs.declared.transfer.Hop.{Hop}
use Rattle.segment_queue.specs.Queue.{Fits}
use Rattle.segment_queue.specs.Scans.{boarding_hop, line_indices_at, no_line_index}
use Rattle.earliest_query.specs.Sweeping.{IsSweptQueue}
use Rattle.earliest_query.specs.UnderWay.{AddsSegments, IsReachedBy}
use Rattle.earliest_query.proofs.search.Search.start_stop.Given as goal

abbrev pub invariant-loop-berth : goal.invariant-loop-berth
invariant-loop-berth g l = record {
  queue : IsSweptQueue (g.S.Scan.net l.self.scan.now) l.self.query.now l.desk l.levels;
  extends : AddsSegments l.initial.desk l.desk 1;
  reached : (k : ℕ) (h : Hop) → k < l.berth → boarding_hop (g.S.Scan.net l.self.scan.now).table (get_or (line_indices_at (g.S.Scan.net l.self.scan.now).table (g.S.Scan.net l.self.scan.now).lines l.stop) k no_line_index) (l.self.query.now.leave +ℤ pos l.secs) ≡ Some h →
      IsReachedBy (g.S.Scan.net l.self.scan.now).table l.desk (length l.desk.segments) 1 h.trip h.at;
  still : Fits (g.S.Scan.net l.self.scan.now).table l.initial.desk → Fits (g.S.Scan.net l.self.scan.now).table l.desk;
}

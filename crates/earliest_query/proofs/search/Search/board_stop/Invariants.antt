use Rattle.std.proofs.Common.{◌≡◌, ℕ, ◌+◌, ◌<◌, length, get_or, pos, ◌+ℤ◌}
use Rattle.std.specs.Prelude.{Some}
use Rattle.tb_base.specs.declared.transfer.Hop.{Hop}
use Rattle.segment_queue.specs.Scans.{boarding_hop, line_indices_at, no_line_index}
use Rattle.earliest_query.specs.UnderWay.{AddsSegments, IsQueue, IsReachedBy, room_of}
use Rattle.earliest_query.proofs.search.Search.board_stop.Given as goal

abbrev pub invariant-loop-berth : goal.invariant-loop-berth
invariant-loop-berth g l = record {
  queue : IsQueue (g.S.Scan.net l.self.scan.now) l.self.query.now l.desk 1;
  extends : AddsSegments l.initial.desk l.desk 1;
  room : room_of l.desk ≡ room_of l.initial.desk;
  reached : (k : ℕ) (h : Hop) → k < l.berth → boarding_hop (g.S.Scan.net l.self.scan.now).table (get_or (line_indices_at (g.S.Scan.net l.self.scan.now).table (g.S.Scan.net l.self.scan.now).lines l.stop) k no_line_index) (l.self.query.now.leave +ℤ pos l.secs) ≡ Some h →
      IsReachedBy (g.S.Scan.net l.self.scan.now).table l.desk (length l.desk.segments) 1 h.trip h.at;
  steps : l.steps ≡ l.initial.steps + l.berth;
}

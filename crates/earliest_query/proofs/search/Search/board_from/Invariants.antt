use Rattle.std.proofs.Common.{ℕ, ◌<◌, get_or, ◌≡◌}
use Rattle.tb_base.specs.declared.table.Path.{Path}
use Rattle.earliest_query.specs.Choices.{IsFirstChoice}
use Rattle.earliest_query.specs.UnderWay.{BoardsAmong, AddsSegments, IsStopBoarded, IsQueue, room_of}
use Rattle.earliest_query.proofs.search.Search.board_from.Given as goal

abbrev pub invariant-loop-path : goal.invariant-loop-path
invariant-loop-path g l = record {
  queue : IsQueue (g.S.Scan.net l.self.scan.now) l.self.query.now l.desk 1;
  extends : AddsSegments l.fn.desk l.desk 1;
  room : room_of l.desk ≡ room_of l.fn.desk;
  own : IsFirstChoice (g.S.Scan.net l.self.scan.now).table l.self.query.now.from l.place (get_or l.self.query.now.from l.place 0) 0 → IsStopBoarded (g.S.Scan.net l.self.scan.now).table l.self.query.now l.desk (get_or l.self.query.now.from l.place 0) 0;
  boarded : (k : ℕ) (d : Path) → k < l.path-index → IsFirstChoice (g.S.Scan.net l.self.scan.now).table l.self.query.now.from l.place (get_or l.path-items k d).to (get_or l.path-items k d).secs →
      IsStopBoarded (g.S.Scan.net l.self.scan.now).table l.self.query.now l.desk (get_or l.path-items k d).to (get_or l.path-items k d).secs;
  steps : BoardsAmong (g.S.Scan.net l.self.scan.now) l.self.query.now.from l.place (get_or l.self.query.now.from l.place 0) l.path-items l.path-index l.fn.steps l.steps;
}

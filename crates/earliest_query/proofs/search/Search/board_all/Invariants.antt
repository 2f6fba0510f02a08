use Rattle.std.proofs.Common.{ℕ, ◌<◌, ◌≡◌}
use Rattle.earliest_query.specs.UnderWay.{AreBoarded, BoardsStops, AddsSegments, IsQueue, room_of}
use Rattle.earliest_query.proofs.search.Search.board_all.Given as goal

abbrev pub invariant-loop-place : goal.invariant-loop-place
invariant-loop-place g l = record {
  queue : IsQueue (g.S.Scan.net l.self.scan.now) l.self.query.now l.desk 1;
  extends : AddsSegments l.initial.desk l.desk 1;
  room : room_of l.desk ≡ room_of l.initial.desk;
  boarded : (place : ℕ) → place < l.place → AreBoarded (g.S.Scan.net l.self.scan.now).table l.self.query.now l.desk place;
  steps : BoardsStops (g.S.Scan.net l.self.scan.now) l.self.query.now.from 0 l.place l.initial.steps l.steps;
}

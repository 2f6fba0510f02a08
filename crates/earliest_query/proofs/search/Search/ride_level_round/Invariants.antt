use Rattle.std.proofs.Common.{◌≡◌, ℕ, suc, ◌<◌, ◌≤◌, length}
use Rattle.segment_queue.specs.Queue.{Fits}
use Rattle.earliest_query.specs.Sweeping.{IsSweptQueue}
use Rattle.earliest_query.specs.UnderWay.{Covers, AddsSegments, IsBounded, IsDone, IsImproved}
use Rattle.earliest_query.proofs.search.Search.ride_level_round.Given as goal

abbrev pub invariant-loop-n : goal.invariant-loop-n
invariant-loop-n g l = record {
  queue : IsSweptQueue (g.S.Scan.net l.self.scan.now) l.self.query.now l.desk l.levels;
  levels : length l.levels ≡ length l.initial.levels;
  extends : AddsSegments l.initial.desk l.desk (suc l.round);
  followed : (n i : ℕ) → l.from ≤ n → n < l.n → Covers l.initial.desk n i → IsDone (g.S.Scan.net l.self.scan.now) l.desk l.best n i;
  bounded : (n i : ℕ) → l.from ≤ n → n < l.n → Covers l.initial.desk n i → IsBounded (g.S.Scan.net l.self.scan.now).table l.self.query.now l.initial.desk l.best n i;
  improved : IsImproved (g.S.Scan.net l.self.scan.now).table l.self.query.now l.desk l.round l.initial.best l.best;
  still : Fits (g.S.Scan.net l.self.scan.now).table l.initial.desk → Fits (g.S.Scan.net l.self.scan.now).table l.desk;
  places : 64 ≤ length l.places;
}

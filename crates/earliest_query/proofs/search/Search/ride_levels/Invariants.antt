use Rattle.std.proofs.Common.{◌+◌, ◌-◌, ◌≤◌}
use Rattle.segment_queue.specs.Queue.{Fits}
use Rattle.earliest_query.specs.Sweeping.{IsSweptRound, KeepsSegments}
use Rattle.earliest_query.proofs.search.Search.ride_levels.Given as goal

abbrev pub invariant-loop-next : goal.invariant-loop-next
invariant-loop-next g l = record {
  ridden : IsSweptRound (g.S.Scan.net l.self.scan.now) l.self.query.now l.desk l.levels l.values l.next l.round;
  kept : KeepsSegments l.initial.desk l.desk;
  few : l.round ≤ l.next + 1;
  still : Fits (g.S.Scan.net l.self.scan.now).table l.initial.desk → Fits (g.S.Scan.net l.self.scan.now).table l.desk;
}

abbrev pub decreases-loop-next : goal.decreases-loop-next
decreases-loop-next g l = 4294967296 - l.next

use Rattle.std.proofs.Common.{ℕ, ◌+◌, ◌-◌, ◌<◌, ◌≤◌, ◌≡◌}
use Rattle.earliest_query.specs.UnderWay.{Covers, covered_before, room_of}
use Rattle.earliest_query.specs.Meeting.{IsMetUnlessHit}
use Rattle.earliest_query.specs.Ridden.{IsRidden}
use Rattle.earliest_query.proofs.search.Search.ride_all.Given as goal

abbrev pub invariant-loop-from : goal.invariant-loop-from
invariant-loop-from g l = record {
  ridden : IsRidden (g.S.Scan.net l.self.scan.now) l.self.query.now l.desk l.from l.round;
  met : (n i : ℕ) → n < l.from → Covers l.desk n i → IsMetUnlessHit (g.S.Scan.net l.self.scan.now) (g.A.AtEvent.has_met l.also (g.S.Scan.net l.self.scan.now)) l.desk n i;
  ready : (later : ℕ) → l.round ≤ later → g.A.AtEvent.is_ready l.also (g.S.Scan.net l.self.scan.now) l.self.query.now later;
  room : room_of l.desk ≡ room_of l.initial.desk;
  most : l.from ≤ 10000000;
  steps : l.steps ≤ l.initial.steps + covered_before l.desk.segments l.from;
}

abbrev pub decreases-loop-from : goal.decreases-loop-from
decreases-loop-from g l = 10000001 - l.from

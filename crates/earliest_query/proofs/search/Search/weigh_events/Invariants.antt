use Rattle.std.proofs.Common.{◌≡◌, ℕ, ◌+◌, ◌-◌, ◌<◌, ◌≤◌}
use Rattle.segment_queue.specs.Traced.{segment_of}
use Rattle.earliest_query.proofs.Noting.{IsSeenTo, IsWeighedTo}
use Rattle.earliest_query.proofs.search.Search.weigh_events.Given as goal

abbrev pub invariant-loop-before : goal.invariant-loop-before
invariant-loop-before g l = record {
  weighed : IsWeighedTo (g.S.Scan.net l.self.scan.now) l.self.query.now l.desk l.n l.round l.initial.best l.best l.before;
  seen : IsSeenTo (g.S.Scan.net l.self.scan.now).table (segment_of l.desk.segments l.n) l.seen l.before;
  ready : (later : ℕ) → l.round ≤ later → g.A.AtEvent.is_ready l.also (g.S.Scan.net l.self.scan.now) l.self.query.now later;
  met : (i : ℕ) → (segment_of l.desk.segments l.n).board < i → i ≤ l.before → g.A.AtEvent.has_met l.also (g.S.Scan.net l.self.scan.now) (segment_of l.desk.segments l.n).trip i l.round;
  still_met : (t i r : ℕ) → g.A.AtEvent.has_met l.initial.also (g.S.Scan.net l.self.scan.now) t i r → g.A.AtEvent.has_met l.also (g.S.Scan.net l.self.scan.now) t i r;
  within : l.before ≤ (segment_of l.desk.segments l.n).end;
  steps : l.steps ≡ l.initial.steps + (l.before - (segment_of l.desk.segments l.n).board);
}

use Rattle.std.proofs.Common.{◌≤◌}
use Rattle.segment_queue.specs.Traced.{segment_of}
use Rattle.earliest_query.proofs.Noting.{IsSeenTo, IsWeighedTo}
use Rattle.earliest_query.proofs.search.Search.weigh_level.Given as goal

abbrev pub invariant-loop-before : goal.invariant-loop-before
invariant-loop-before g l = record {
  weighed : IsWeighedTo (g.S.Scan.net l.self.scan.now) l.self.query.now l.desk l.n l.round l.initial.best l.best l.before;
  seen : IsSeenTo (g.S.Scan.net l.self.scan.now).table (segment_of l.desk.segments l.n) l.seen l.before;
  within : l.before ≤ (segment_of l.desk.segments l.n).end;
}

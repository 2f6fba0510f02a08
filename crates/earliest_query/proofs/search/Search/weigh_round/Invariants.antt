use Rattle.std.proofs.Common.{◌-◌, ◌≤◌, length}
use Rattle.earliest_query.proofs.RoundWeighed.{AreWeighed}
use Rattle.earliest_query.proofs.search.Search.weigh_round.Given as goal

abbrev pub invariant-loop-next : goal.invariant-loop-next
invariant-loop-next g l = record {
  onward : l.from ≤ l.next;
  upto : l.next ≤ l.to;
  room : 128 ≤ length l.ends;
  are : AreWeighed (g.S.Scan.net l.self.scan.now) l.self.query.now l.fn.desk l.from l.round l.fn.so_far (g.A.AtEvent.has_met l.fn.also (g.S.Scan.net l.self.scan.now)) (g.A.AtEvent.has_met l.also (g.S.Scan.net l.self.scan.now)) (g.A.AtEvent.is_ready l.also (g.S.Scan.net l.self.scan.now) l.self.query.now) l.fn.steps l.desk l.best l.steps l.next;
}

abbrev pub decreases-loop-next : goal.decreases-loop-next
decreases-loop-next g l = l.to - l.next

abbrev pub invariant-loop-n : goal.invariant-loop-n
invariant-loop-n g l = record {
  onward : l.next ≤ l.n;
  upto : l.n ≤ l.stop;
  are : AreWeighed (g.S.Scan.net l.self.scan.now) l.self.query.now l.fn.desk l.from l.round l.fn.so_far (g.A.AtEvent.has_met l.fn.also (g.S.Scan.net l.self.scan.now)) (g.A.AtEvent.has_met l.also (g.S.Scan.net l.self.scan.now)) (g.A.AtEvent.is_ready l.also (g.S.Scan.net l.self.scan.now) l.self.query.now) l.fn.steps l.desk l.best l.steps l.n;
}

use Rattle.std.proofs.Common.{◌≡◌, ℕ, List, ◌<◌, get_or, pos, ◌+ℤ◌}
use Rattle.std.specs.Prelude.{Contains, IfSome, Some}
use Rattle.tb_base.specs.Walking.{walk}
use Rattle.segment_queue.specs.declared.desk.Segment.{Segment}
use Rattle.segment_queue.specs.Traced.{IsTracedHit}
use Rattle.earliest_query.specs.Choices.{ArrivesBy}
use Rattle.earliest_query.proofs.search.Search.walk_hit.Given as goal

abbrev pub invariant-loop-origin : goal.invariant-loop-origin
invariant-loop-origin g l = record {
  traced : IfSome l.best (λ h. ((segments : List Segment) → IsTracedHit (g.S.Scan.net l.self.scan.now).table l.self.query.now segments h) × (h.value.rides ≡ 0));
  bounded : (k q secs : ℕ) → k < l.origin-index → Contains l.self.query.now.to q → walk (g.S.Scan.net l.self.scan.now).table (get_or l.origin-items k 0) q ≡ Some secs → ArrivesBy l.best (l.self.query.now.leave +ℤ pos secs);
}

use Rattle.std.proofs.Common.{◌≡◌, ◌<◌, ◌≤◌, ◌+◌, length}
use Rattle.std.specs.Prelude.{sum}
use Rattle.plain_rounds.specs.Rounds.{AreKept, TakesRides, IsBoardable}
use Rattle.plain_rounds.proofs.rounds.Rounds.ride.Given as goal

abbrev pub invariant-loop-t : goal.invariant-loop-t
invariant-loop-t l = record {
  kept : AreKept l.table l.self;
  ready : l.self.ready.items ≡ l.fn.self.ready.items;
  takes : TakesRides l.table l.fn.self.arrivals l.self.arrivals (λ s. (s.trip < l.t) × IsBoardable l.table l.fn.self.ready.items s);
  few : length l.self.arrivals.ridden.items + sum l.self.boarded_at.items ≤ length l.fn.self.arrivals.ridden.items + sum l.fn.self.boarded_at.items;
}

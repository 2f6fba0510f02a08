use Rattle.std.proofs.Common.{◌≡◌, ◌<◌, length, subst, ◌∙◌, arith}
use Rattle.tb_base.proofs.Events.{MayAlight-inside}
use Rattle.plain_rounds.specs.Rounds.{IsBoardable, TakesRides}
use Rattle.plain_rounds.proofs.RideLemmas.{TakesRides-next, TakesRides-same}
use Rattle.plain_rounds.proofs.rounds.Rounds.ride.Goals as goal

pub loop-t-preserved : goal.loop-t-preserved
loop-t-preserved c = record {
  kept = c.in_ok-ride_trip.ensures.kept;
  ready = c.in_ok-ride_trip.ensures.ready ∙ c.loop-t.invariant.ready;
  takes = TakesRides-next c.args.table.now c.args.self.now.arrivals c.loop-t.self.arrivals c.ride_trip.new.self.arrivals (IsBoardable c.args.table.now c.args.self.now.ready.items) c.loop-t.t c.loop-t.invariant.takes
      (subst (λ ready. TakesRides c.args.table.now c.loop-t.self.arrivals c.ride_trip.new.self.arrivals (λ s. (s.trip ≡ c.loop-t.t) × IsBoardable c.args.table.now ready s)) c.loop-t.invariant.ready c.in_ok-ride_trip.ensures.takes);
  few = omega (arith, c.in_ok-ride_trip.ensures.few, c.loop-t.invariant.few);
}

pub returns-clause-takes : goal.returns-clause-takes
returns-clause-takes c =
    TakesRides-same c.args.table.now c.args.self.now.arrivals c.loop-t.self.arrivals (λ s. (s.trip < c.loop-t.t) × IsBoardable c.args.table.now c.args.self.now.ready.items s) (IsBoardable c.args.table.now c.args.self.now.ready.items)
    (λ s h. h.1) (λ s h. (let inside : s.trip < length c.args.table.now.trips = (MayAlight-inside c.args.table.now s.trip s.alight h.alights).0 in omega arith, h))
    c.loop-t.invariant.takes

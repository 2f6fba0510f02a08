use Rattle.std.proofs.Common.{◌≡◌, ◌+◌, arith}
use Rattle.tb_base.specs.TimetableData.{MayAlight}
use Rattle.plain_rounds.specs.Rounds.{IsAlong}
use Rattle.plain_rounds.proofs.RideLemmas.{TakesRides-more, TakesRides-same}
use Rattle.plain_rounds.proofs.arrivals.StopArrivals.alight_along.Goals as goal

pub loop-alight-preserved : goal.loop-alight-preserved
loop-alight-preserved c = record {
  takes = TakesRides-more c.args.table.now c.args.self.now c.loop-alight.self c.alight.new.self
      (λ i s. (s ≡ record { trip = c.args.trip; board = c.args.boarding.at; alight = i; before = c.args.boarding.before }) × MayAlight c.args.table.now c.args.trip i)
      (c.args.boarding.at + 1) c.loop-alight.alight (omega arith) c.loop-alight.invariant.takes c.in_ok-alight.ensures.takes;
  few = omega (arith, c.in_ok-alight.ensures.few, c.loop-alight.invariant.few);
}

pub returns-clause-takes : goal.returns-clause-takes
returns-clause-takes c =
    let all : c.loop-alight.alight ≡ c.args.until + 1 = omega arith in
    TakesRides-same c.args.table.now c.args.self.now c.loop-alight.self _ (IsAlong c.args.table.now c.args.trip c.args.boarding c.args.until)
    (λ s h. (h.0, omega (arith, h.1), omega (arith, all, h.2), h.3))
    (λ s h. (h.0, omega (arith, h.1), omega (arith, all, h.2), h.3))
    c.loop-alight.invariant.takes

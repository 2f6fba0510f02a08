use Rattle.std.proofs.Common.{◌≡◌, ℕ, ◌<◌, ◌≤◌, ◌+◌, length}
use Rattle.tb_base.specs.TimetableData.{MayAlight}
use Rattle.plain_rounds.specs.Rounds.{TakesRides}
use Rattle.plain_rounds.proofs.arrivals.StopArrivals.alight_along.Given as goal

abbrev pub invariant-loop-alight : goal.invariant-loop-alight
invariant-loop-alight l = record {
  takes : TakesRides l.table l.fn.self l.self (λ s. (i : ℕ) × (l.boarding.at + 1 < i + 1) × (i < l.alight) × ((s ≡ record { trip = l.trip; board = l.boarding.at; alight = i; before = l.boarding.before }) × MayAlight l.table l.trip i));
  few : length l.self.ridden.items + l.boarding.at + 1 ≤ length l.fn.self.ridden.items + l.alight;
}

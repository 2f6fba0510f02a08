use Rattle.std.proofs.Common.{◌≡◌, ℕ, ◌<◌, ◌≤◌, get_or}
use Rattle.std.specs.Prelude.{IfSome}
use Rattle.plain_rounds.specs.Shown.{IsNearestOf, secs_by}
use Rattle.plain_rounds.proofs.legs.nearest.Given as goal

abbrev pub invariant-loop-stop : goal.invariant-loop-stop
invariant-loop-stop l = record {
  nearest : IsNearestOf (secs_by l.table l.walks) (λ q. (k : ℕ) × (k < l.stop-index) × (get_or l.stops k 0 ≡ q)) l.best;
  at_most_a_day : IfSome l.best (λ n. n.secs ≤ 86400);
}

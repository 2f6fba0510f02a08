use Rattle.std.proofs.Common.{◌≡◌, ◌<◌, ℕ, Option, ℤ, length, map, get_or}
use Rattle.tb_base.specs.BestValues.{IsLeast}
use Rattle.reach_all.specs.Arriving.{lone}
use Rattle.reach_all.specs.Reach.{values_at}
use Rattle.reach_all.specs.Swept.{IsWalkOrRide}
use Rattle.reach_all.proofs.sweeping.times_at.Given as goal

abbrev pub invariant-loop-stop : goal.invariant-loop-stop
invariant-loop-stop l = record {
  each_stop : length l.times.items ≡ l.stop;
  times : (p : ℕ) (o : Option ℤ) → p < l.stop → IsLeast (IsWalkOrRide (values_at (map (λ list. list.items) l.walks) p) (values_at (map lone l.arrivals) p) l.fn.leave) (get_or l.times.items p o);
}

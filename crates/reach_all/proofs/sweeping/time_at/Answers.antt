use Rattle.std.proofs.Common.{sym, subst, to_z, of_z, w32, ℤ}
use Rattle.std.proofs.lemmas.Int.{to_z-of_z}
use Rattle.tb_base.specs.BestValues.{IsLeast}
use Rattle.reach_all.specs.Arriving.{lone}
use Rattle.reach_all.specs.Swept.{IsWalkOrRide}
use Rattle.reach_all.proofs.BestTimes.{time_at}
use Rattle.reach_all.proofs.sweeping.time_at.Goals as goal

pub returns : goal.returns
returns c =
    let leave : ℤ = to_z w32 (of_z w32 c.args.leave) in
    subst (λ l. IsLeast (IsWalkOrRide c.args.walks.now (lone c.args.arrival) l) c.shorter.result) (to_z-of_z w32 c.args.leave c.ranges.leave)
    (subst (λ o. IsLeast (IsWalkOrRide c.args.walks.now (lone c.args.arrival) leave) o) (sym c.shorter.ensures)
    (time_at c.args.walks.now (lone c.args.arrival) leave c.time_of.result c.time_after.result c.time_of.ensures c.time_after.ensures))

use Rattle.std.proofs.Common.{rules, ◌/◌, ◌-◌, arith}
use Rattle.transfer_pack.proofs.Ended.{halved_down, halved_up}
use Rattle.transfer_pack.proofs.set.halved.Goals as goal
use Rattle.transfer_pack.proofs.set.halved.Goals.{then-end-place, else-end-place}

pub loop-left-preserved : goal.loop-left-preserved
loop-left-preserved c = elim c.if-end-place.branch [
  | then-end-place w ↦
      rw w.first-is (halved_up c.args.spots.now c.args.place c.requires.rising c.loop-left.first c.loop-left.left (c.loop-left.left - c.loop-left.left / 2)
      (omega (arith, c.loop-left-test.true)) (omega arith) c.loop-left.invariant.0 c.loop-left.invariant.2 (search rules))
  | else-end-place w ↦
      rw w.first-is (halved_down c.args.spots.now c.args.place c.requires.rising c.loop-left.first c.loop-left.left (c.loop-left.left - c.loop-left.left / 2)
      (omega (arith, c.loop-left-test.true)) (omega arith) (omega arith) c.loop-left.invariant.0 c.loop-left.invariant.1 (search rules))
]

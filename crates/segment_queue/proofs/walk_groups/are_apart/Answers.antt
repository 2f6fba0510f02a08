use Rattle.std.proofs.Common.{inl, inr, subst, sym, arith}
use Rattle.std.proofs.lemmas.Grind.{common_steps}
use Rattle.tb_base.proofs.NumberFacts.{below_or_last}
use Rattle.segment_queue.proofs.Settled.{IsSettled, one_settled}
use Rattle.segment_queue.proofs.walk_groups.are_apart.Goals as goal

pub loop-p-preserved : goal.loop-p-preserved
loop-p-preserved c p below =
    elim (below_or_last p c.loop-p.p (omega (arith, below))) [
      | inl h ↦ c.loop-p.invariant p h
      | inr e ↦ subst (IsSettled c.args.table.now c.args.groups.now) (sym e)
          (one_settled c.args.table.now c.args.groups.now c.loop-p.p _ c.paths.result.now c.paths.ensures.paths (grind (arith, common_steps)) (c.do_stay.ensures c.if-not-do_stay.false))
    ]

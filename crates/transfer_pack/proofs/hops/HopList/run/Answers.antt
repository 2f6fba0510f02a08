use Rattle.std.proofs.Common.{◌∙◌, ◌-◌, ap, drop, take, sym}
use Rattle.transfer_pack.specs.Words.{hops_held}
use Rattle.transfer_pack.proofs.Words.{part_in_words}
use Rattle.transfer_pack.proofs.hops.HopList.run.Goals as goal
use Rattle.transfer_pack.proofs.hops.HopList.run.Goals.{in-Short, in-Long}

pub returns : goal.returns
returns c = elim c.match-self.branch [
  | in-Short w ↦ rw (w.hops-is) (part_in_words w.as_slice.result.now w.in-Short.words.items w.part.result.now c.self.inside.hops c.args.self.now
      (c.args.to - c.args.from) c.args.from c.self.view_is (ap hops_held w.in-Short.is) w.as_slice.ensures.value w.part.ensures)
  | in-Long w ↦ rw (w.hops-is) (w.part-in-Long.ensures ∙ ap (λ h. take (c.args.to - c.args.from) (drop c.args.from h))
      (w.as_slice-in-Long.ensures.value ∙ sym (ap hops_held w.in-Long.is) ∙ c.self.view_is))
]

use Rattle.std.proofs.Common.{rules, ◌≡◌, ◌∙◌, ℕ, ◌-◌, ◌<◌, ◌≤◌, length, get_or, sym, ap, subst, arith}
use Rattle.tb_base.specs.Network.{NetData}
use Rattle.segment_queue.specs.Queue.{DeskData, IsClipped}
use Rattle.segment_queue.proofs.Clips.{clips_more}
use Rattle.segment_queue.proofs.desk.Desk.clip.Goals as goal

pub loop-n-preserved : goal.loop-n-preserved
loop-n-preserved g c =
    let N : NetData = g.S.Scan.net c.args.scan.now in
    let D : DeskData = c.args.self.now in
    let before = c.loop-n.invariant in
    let is : c.index.result.now ≡ get_or D.segments c.loop-n.n c.index.result.now = c.index.ensures ∙ ap (λ (d : DeskData). get_or d.segments c.loop-n.n c.index.result.now) c.self.view_is in
    record {
      long = search rules;
      onward = omega (arith, before.onward);
      clipped = clips_more N D.marks D.segments c.args.from c.loop-n.n c.clipped_end-end.result c.loop-n.ends c.index.result.now before.onward
          (omega (arith, before.long, before.onward, c.loop-n-test.true, c.requires.room)) (subst (λ s. IsClipped N D.marks s c.clipped_end-end.result) is c.clipped_end-end.ensures) before.clipped;
    }

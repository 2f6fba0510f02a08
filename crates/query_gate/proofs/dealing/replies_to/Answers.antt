use Rattle.std.proofs.Common.{subst}
use Rattle.query_gate.proofs.Dealt.{reply_more}
use Rattle.query_gate.proofs.dealing.replies_to.Goals as goal

pub loop-i-preserved : goal.loop-i-preserved
loop-i-preserved g c =
    let q = c.index-requests-i.result in
    let right = subst (λ p. g.O.Office.right c.args.office.now p c.in_ok-reply.reply) c.index-requests-i.is c.in_ok-reply.ensures in
    reply_more (g.O.Office.right c.args.office.now) c.args.requests.now c.loop-i.i q c.loop-i.replies.items c.push.new.self.items c.in_ok-reply.reply c.loop-i-test.true c.loop-i.invariant right c.in-Ok.ensures.items

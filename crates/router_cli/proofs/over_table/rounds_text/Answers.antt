use Rattle.std.proofs.Common.{subst, w32}
use Rattle.std.proofs.lemmas.Int.{to_z-of_z}
use Rattle.std.proofs.lemmas.Result.{IfOk-weaker}
use Rattle.router_cli.specs.Answers.{IsRoundsReply}
use Rattle.router_cli.proofs.over_table.rounds_text.Goals as goal

pub returns : goal.returns
returns c =
    let reply = c.in_ok-reply.reply in
    let right = subst (λ z. IsRoundsReply c.args.table.now c.args.from.now c.args.to.now z reply) (to_z-of_z w32 c.args.leave c.ranges.leave) c.in_ok-reply.ensures.reply in
    IfOk-weaker c.shown_reply-text.result _ _ (λ text shown. record { reply = reply; right = right; text = shown }) c.shown_reply-text.ensures

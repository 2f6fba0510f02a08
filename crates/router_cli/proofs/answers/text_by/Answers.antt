use Rattle.std.proofs.lemmas.Result.{IfOk-weaker}
use Rattle.router_cli.proofs.AnswerLemmas.{reply_shown}
use Rattle.router_cli.proofs.answers.text_by.Goals as goal

pub returns : goal.returns
returns c =
    IfOk-weaker c.shown_reply-text.result _ _
    (λ text shown. reply_shown c.args.json c.args.table.now c.args.network.now c.soundness.ensures c.args.question.now c.in_ok-reply.reply c.requires.serves c.in_ok-reply.ensures.reply text.items shown)
    c.shown_reply-text.ensures

use Rattle.std.proofs.Common.{◌≡◌, false, refl, subst, sym}
use Rattle.std.specs.Prelude.{IfOk}
use Rattle.std.proofs.lemmas.Result.{IfOk-weaker}
use Rattle.tb_base.specs.TimetableData.{TimetableData}
use Rattle.answer_text.specs.Questions.{needs_mirror}
use Rattle.edition_store.specs.Editions.{EditionData, net_of, network_of}
use Rattle.query_gate.specs.Replies.{HaveNumbers, IsReply}
use Rattle.query_gate.specs.Json.{shown_reply}
use Rattle.answer_json.specs.declared.frame.Frame.TheVariants as frame
use Rattle.router_cli.specs.Answers.{ShowsReply}
use Rattle.router_cli.specs.LateTrips.{ask_of}
use Rattle.router_cli.proofs.AnswerLemmas.{reply_shown}
use Rattle.router_cli.proofs.LastEdition.{answered_last, last_looked_at, pinned_whole}
use Rattle.router_cli.proofs.late_trips.ask_by.Goals as goal

pub shown_reply-text-requires : goal.shown_reply-text-requires
shown_reply-text-requires g c =
    let answer = c.in_ok-answer.ensures in
    subst (λ (T : TimetableData). HaveNumbers T c.in_ok-answer.answer.reply) (sym c.table.ensures)
    (answer.numbers c.edition-edition.result.now (answer.reply.1.0, c.edition-edition.ensures))

pub returns : goal.returns
returns g c e is =
    let i = c.args.inquiry.now in
    let x = c.edition-edition.result.now in
    let p = c.in_ok-answer.answer.pinned in
    let reply = c.in_ok-answer.answer.reply in
    let answer = c.in_ok-answer.ensures in
    let same = pinned_whole c.args.caller.now.kept _ p c.requires answer.last answer.kept in
    let forwards = subst (λ q. needs_mirror q ≡ false) (sym c.in_ok-question.ensures.question) refl in
    let right = answered_last p.list x c.in_ok-question.question reply forwards c.edition-edition.ensures answer.reply in
    subst (λ (y : EditionData). IfOk c.shown_reply-text.result (λ text. ShowsReply c.args.json y.table false (ask_of i) text.items))
    (last_looked_at c.args.caller.now.kept p e x same is c.edition-edition.ensures)
    (IfOk-weaker c.shown_reply-text.result _ _
    (λ text shown. reply_shown c.args.json x.table (network_of x) c.soundness.ensures.network (ask_of i) reply refl
    (subst (λ q. IsReply (net_of (network_of x)) q reply) c.in_ok-question.ensures.question right) text.items
    (subst (λ T. text.items ≡ shown_reply c.args.json frame.Lines T reply) c.table.ensures shown))
    c.shown_reply-text.ensures)

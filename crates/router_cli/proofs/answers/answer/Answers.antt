use Rattle.std.proofs.Common.{◌∙◌, IfOk, false, rules, sym, subst, true, w32}
use Rattle.std.specs.Prelude.{FitsSigned}
use Rattle.std.proofs.lemmas.Int.{to_z-of_z}
use Rattle.std.proofs.lemmas.Result.{IfOk-weaker}
use Rattle.tb_base.specs.TimetableData.{TimetableData}
use Rattle.answer_text.specs.declared.question.Question.TheVariants as question
use Rattle.router_cli.specs.Answers.{IsAnswer, IsCommandText, ShowsReply}
use Rattle.router_cli.proofs.AnswerLemmas.{either_way}
use Rattle.router_cli.proofs.answers.answer.Goals as goal

pub returns-in-Ask : goal.returns-in-Ask
returns-in-Ask g c =
    let r = c.rounds_text-text.result in
    let q = c.in-Question.question in
    let a = c.in-Ask in
    let fits : FitsSigned w32 a.leave = search rules in
    let own = subst (λ z. IfOk r (λ text. ShowsReply c.request.inside.json c.args.table true (question.Ask a.from a.to z) text.items)) (to_z-of_z w32 a.leave fits) c.rounds_text-text.ensures in
    let asked = subst (λ q. IfOk r (λ text. ShowsReply c.request.inside.json c.args.table true q text.items)) (sym a.is) own in
    let plain = subst (λ b. IfOk r (λ text. ShowsReply c.request.inside.json c.args.table b q text.items)) (sym c.if-request.true) asked in
    subst (λ d. IfOk r (λ text. IsAnswer c.args.table d text.items)) c.request.view_is
    (subst (λ command. IfOk r (λ text. IsCommandText c.request.inside.json c.args.table c.request.inside.plain command text.items)) (sym c.in-Question.is) plain)

pub returns-in_default : goal.returns-in_default
returns-in_default g c =
    let r = c.mirror_text-text.result in
    let q = c.in-Question.question in
    let plain = c.request.inside.plain in
    let shown : IfOk r (λ text. ShowsReply c.request.inside.json c.args.table plain q text.items) = IfOk-weaker r _ _ (λ text kept. either_way c.request.inside.json c.args.table plain q text.items kept) c.mirror_text-text.ensures in
    subst (λ d. IfOk r (λ text. IsAnswer c.args.table d text.items)) c.request.view_is
    (subst (λ command. IfOk r (λ text. IsCommandText c.request.inside.json c.args.table plain command text.items)) (sym c.in-Question.is) shown)

pub returns-in_ok-edition-in_default-2 : goal.returns-in_ok-edition-in_default-2
returns-in_ok-edition-in_default-2 g c =
    let r = c.text_by-text.result in
    let q = c.in-Question.question in
    let plain = c.request.inside.plain in
    let same = c.table.ensures ∙ c.in_ok-edition-in_default-2.ensures in
    let shown : IfOk r (λ text. ShowsReply c.request.inside.json c.args.table plain q text.items) = IfOk-weaker r _ _
    (λ text kept. either_way c.request.inside.json c.args.table plain q text.items (subst (λ (T : TimetableData). ShowsReply c.request.inside.json T false q text.items) same kept))
    c.text_by-text.ensures in
    subst (λ d. IfOk r (λ text. IsAnswer c.args.table d text.items)) c.request.view_is
    (subst (λ command. IfOk r (λ text. IsCommandText c.request.inside.json c.args.table plain command text.items)) (sym c.in-Question.is) shown)

pub returns-in-Build : goal.returns-in-Build
returns-in-Build g c =
    subst (λ d. IfOk c.report-text.result (λ text. IsAnswer c.args.table d text.items)) c.request.view_is
    (subst (λ command. IfOk c.report-text.result (λ text. IsCommandText c.request.inside.json c.args.table c.request.inside.plain command text.items)) (sym c.in-Build.is) c.report-text.ensures)

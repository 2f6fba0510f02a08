use Rattle.std.proofs.Common.{◌∙◌, ◌≤ℤ◌, ap, pos, subst, sym, w32}
use Rattle.std.proofs.lemmas.Int.{to_z-of_z}
use Rattle.std.proofs.lemmas.Result.{IfOk-weaker}
use Rattle.tb_base.specs.BestValues.{QueryData}
use Rattle.gtfs_rows.proofs.FileTimes.{file_time-fits}
use Rattle.command_line.specs.Inquiries.{InquiryData}
use Rattle.query_gate.specs.Questions.{query_at}
use Rattle.router_cli.specs.Answers.{IsQuery}
use Rattle.router_cli.specs.Verifying.{ShowsVerdict}
use Rattle.router_cli.proofs.AnswerLemmas.{asked_by, known_text, unknown_name}
use Rattle.router_cli.proofs.verifying.verified_text.Goals as goal

pub judge-requires-clause-leave : goal.judge-requires-clause-leave
judge-requires-clause-leave c =
    let T = c.args.table.now in
    let i = c.args.inquiry.now in
    let is = c.inquiry.view_is in
    let time = to_z-of_z w32 c.inquiry.inside.time (file_time-fits c.inquiry.inside.time c.inquiry.invariant) ∙ ap InquiryData.time is in
    let asked = asked_by T _ i.from _ i.to _ i.time _ (ap InquiryData.from is) (ap InquiryData.to is) time c.in_ok-name.ensures in
    let known = subst (IsQuery T i.from i.to i.time) c.in-Query.is asked in
    subst (λ (Q : QueryData). Q.leave ≤ℤ pos 359999) (sym known.2) (subst (λ (j : InquiryData). j.time ≤ℤ pos 359999) is c.inquiry.invariant.most)

pub returns-in-Query : goal.returns-in-Query
returns-in-Query c =
    let T = c.args.table.now in
    let i = c.args.inquiry.now in
    let is = c.inquiry.view_is in
    let time = to_z-of_z w32 c.inquiry.inside.time (file_time-fits c.inquiry.inside.time c.inquiry.invariant) ∙ ap InquiryData.time is in
    let asked = asked_by T _ i.from _ i.to _ i.time _ (ap InquiryData.from is) (ap InquiryData.to is) time c.in_ok-name.ensures in
    let known = subst (IsQuery T i.from i.to i.time) c.in-Query.is asked in
    IfOk-weaker c.verdict_shown.result _ _
    (λ text shown. known_text c.args.json T i.from i.to (λ ends. ShowsVerdict c.args.json T c.args.claimed.now (query_at ends i.time)) known.0 text.items known.1
    (subst (λ Q. ShowsVerdict c.args.json T c.args.claimed.now Q text.items) known.2
    (record { said = c.judge.result; is = c.judge.ensures.verdict; yes = c.judge.ensures.yes; text = shown })))
    c.verdict_shown.ensures

pub returns-in-Unknown : goal.returns-in-Unknown
returns-in-Unknown c =
    let T = c.args.table.now in
    let i = c.args.inquiry.now in
    let is = c.inquiry.view_is in
    let time = to_z-of_z w32 c.inquiry.inside.time (file_time-fits c.inquiry.inside.time c.inquiry.invariant) ∙ ap InquiryData.time is in
    let asked = asked_by T _ i.from _ i.to _ i.time _ (ap InquiryData.from is) (ap InquiryData.to is) time c.in_ok-name.ensures in
    let unknown = subst (IsQuery T i.from i.to i.time) c.in-Unknown.is asked in
    IfOk-weaker c.shown_unknown.result _ _
    (λ text shown. unknown_name c.args.json T i.from i.to (λ ends. ShowsVerdict c.args.json T c.args.claimed.now (query_at ends i.time)) _ text.items unknown shown)
    c.shown_unknown.ensures

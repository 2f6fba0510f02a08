use Rattle.std.proofs.Common.{◌∙◌, ap, subst, w32}
use Rattle.std.proofs.lemmas.Int.{to_z-of_z}
use Rattle.std.proofs.lemmas.Result.{IfOk-weaker}
use Rattle.gtfs_rows.proofs.FileTimes.{file_time-fits}
use Rattle.command_line.specs.Inquiries.{InquiryData}
use Rattle.query_gate.specs.Questions.{query_at}
use Rattle.router_cli.specs.Answers.{IsDirectText, IsQuery}
use Rattle.router_cli.proofs.AnswerLemmas.{asked_by, known_text, unknown_name}
use Rattle.router_cli.proofs.over_table.direct_text.Goals as goal

pub returns-in-Query : goal.returns-in-Query
returns-in-Query c =
    let T = c.args.table.now in
    let i = c.args.inquiry.now in
    let is = c.inquiry.view_is in
    let time = to_z-of_z w32 c.inquiry.inside.time (file_time-fits c.inquiry.inside.time c.inquiry.invariant) ∙ ap InquiryData.time is in
    let asked = asked_by T _ i.from _ i.to _ i.time _ (ap InquiryData.from is) (ap InquiryData.to is) time c.in_ok-name.ensures in
    let known = subst (IsQuery T i.from i.to i.time) c.in-Query.is asked in
    IfOk-weaker c.shown_arrival.result _ _
    (λ text shown. known_text c.args.json T i.from i.to (λ ends. IsDirectText c.args.json T (query_at ends i.time)) known.0 text.items known.1
    (subst (λ Q. IsDirectText c.args.json T Q text.items) known.2 (c.direct.result, c.direct.ensures, shown)))
    c.shown_arrival.ensures

pub returns-in-Unknown : goal.returns-in-Unknown
returns-in-Unknown c =
    let T = c.args.table.now in
    let i = c.args.inquiry.now in
    let is = c.inquiry.view_is in
    let time = to_z-of_z w32 c.inquiry.inside.time (file_time-fits c.inquiry.inside.time c.inquiry.invariant) ∙ ap InquiryData.time is in
    let asked = asked_by T _ i.from _ i.to _ i.time _ (ap InquiryData.from is) (ap InquiryData.to is) time c.in_ok-name.ensures in
    let unknown = subst (IsQuery T i.from i.to i.time) c.in-Unknown.is asked in
    IfOk-weaker c.shown_unknown.result _ _
    (λ text shown. unknown_name c.args.json T i.from i.to (λ ends. IsDirectText c.args.json T (query_at ends i.time)) _ text.items unknown shown)
    c.shown_unknown.ensures

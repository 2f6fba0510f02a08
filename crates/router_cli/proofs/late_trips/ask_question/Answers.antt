use Rattle.std.proofs.Common.{◌∙◌, ap, w32}
use Rattle.std.proofs.lemmas.Int.{to_z-of_z}
use Rattle.command_line.specs.Inquiries.{InquiryData}
use Rattle.gtfs_rows.proofs.FileTimes.{file_time-fits}
use Rattle.router_cli.proofs.AnswerLemmas.{same_ask}
use Rattle.router_cli.proofs.late_trips.ask_question.Goals as goal

pub returns-clause-question : goal.returns-clause-question
returns-clause-question c =
    let i = c.inquiry.inside in
    let is = c.inquiry.view_is in
    same_ask c.args.inquiry.now _ _ _
    (c.in_ok-new.ensures ∙ ap InquiryData.from is)
    (c.in_ok-new-2.ensures ∙ ap InquiryData.to is)
    (to_z-of_z w32 i.time (file_time-fits i.time c.inquiry.invariant) ∙ ap InquiryData.time is)

pub returns-clause-times : goal.returns-clause-times
returns-clause-times c =
    let i = c.inquiry.inside in
    rw (to_z-of_z w32 i.time (file_time-fits i.time c.inquiry.invariant)) c.inquiry.invariant.most

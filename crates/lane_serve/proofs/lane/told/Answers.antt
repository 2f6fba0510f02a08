use Rattle.std.proofs.Common.{◌∙◌, ap}
use Rattle.query_gate.specs.Json.{shown_reply}
use Rattle.answer_json.specs.declared.frame.Frame.TheVariants as frame
use Rattle.lane_serve.proofs.Answering.{answered, last_edition_is}
use Rattle.lane_serve.proofs.lane.told.Goals as goal

pub shown_reply-requires : goal.shown_reply-requires
shown_reply-requires g c =
    let a = c.args.answer.now in
    let e = c.edition-edition.result.now in
    rw c.table.ensures (c.requires.numbers e (last_edition_is a.pinned.list c.args.request.now e a.reply c.requires.reply c.edition-edition.ensures))

pub returns-clause-right : goal.returns-clause-right
returns-clause-right g c =
    let a = c.args.answer.now in
    answered a.pinned.list c.args.request.now c.edition-edition.result.now a.reply _ c.requires.reply c.edition-edition.ensures c.number.ensures
    (c.in_ok-new.ensures ∙ c.as_slice.ensures.value ∙ c.in_ok-text.ensures ∙ ap (λ T. shown_reply c.args.request.now.json frame.Array T a.reply) c.table.ensures)

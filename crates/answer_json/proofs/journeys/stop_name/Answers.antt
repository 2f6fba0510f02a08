use Rattle.std.proofs.Common.{◌∙◌}
use Rattle.answer_text.proofs.Joined.{name_of_stop}
use Rattle.answer_json.proofs.journeys.stop_name.Goals as goal

pub returns : goal.returns
returns c = c.bytes.ensures ∙ name_of_stop c.args.table.now c.args.p c.stop-stop.result.now c.stop-stop.ensures

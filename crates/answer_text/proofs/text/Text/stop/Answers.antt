use Rattle.std.proofs.Common.{◌∙◌, [], ◌∷◌}
use Rattle.answer_text.specs.Journeys.{stop_name}
use Rattle.answer_text.proofs.Joined.{last_joined, same_added, name_of_stop}
use Rattle.answer_text.proofs.text.Text.stop.Goals as goal

pub returns : goal.returns
returns c =
    last_joined c.add-2.result c.args.self.now c.add.new.self c.add-2.new.self (32 ∷ []) (stop_name c.args.table.now c.args.p) c.in_ok-add.ensures.added
    (same_added c.add-2.result c.add.new.self c.add-2.new.self c.bytes.result.now (stop_name c.args.table.now c.args.p)
    (c.bytes.ensures ∙ name_of_stop c.args.table.now c.args.p c.stop-stop.result.now c.stop-stop.ensures) c.add-2.ensures.added)

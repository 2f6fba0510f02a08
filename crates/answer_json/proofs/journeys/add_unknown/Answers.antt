use Rattle.std.proofs.Common.{codes}
use Rattle.answer_text.proofs.Joined.{last_joined}
use Rattle.answer_json.specs.Frames.{string_json}
use Rattle.answer_json.proofs.journeys.add_unknown.Goals as goal

pub returns : goal.returns
returns c =
    last_joined c.add_string.result c.args.text.now c.add.new.self c.add_string.new.text (codes "\"unknown_stop\":") (string_json c.args.name.now) c.in_ok-add.ensures.added c.add_string.ensures

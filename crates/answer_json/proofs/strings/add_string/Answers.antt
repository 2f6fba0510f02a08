use Rattle.std.proofs.Common.{◌++◌, ◌∷◌, []}
use Rattle.json.specs.Print.{escape}
use Rattle.answer_text.proofs.Joined.{last_joined}
use Rattle.answer_json.specs.Frames.{string_json}
use Rattle.answer_json.proofs.strings.add_string.Goals as goal

pub returns : goal.returns
unfolding string_json
returns c =
    last_joined c.add-2.result c.args.text.now c.add.new.self c.add-2.new.self (34 ∷ []) (escape c.args.bytes.now ++ 34 ∷ []) c.in_ok-add.ensures.added
    (last_joined c.add-2.result c.add.new.self c.add_content.new.text c.add-2.new.self (escape c.args.bytes.now) (34 ∷ []) c.in_ok-add_content.ensures c.add-2.ensures.added)

use Rattle.std.proofs.Common.{◌++◌, ◌∷◌, []}
use Rattle.answer_text.proofs.Joined.{joined, last_joined}
use Rattle.answer_json.specs.Frames.{member_json, string_json}
use Rattle.answer_json.proofs.strings.add_member.Goals as goal

pub returns : goal.returns
unfolding member_json
returns c =
    let s = c.args.text.now in
    let name = c.args.name.now in
    let two = joined s c.add.new.self c.add-2.new.self (44 ∷ 34 ∷ []) name c.in_ok-add.ensures.added c.in_ok-add-2.ensures.added in
    let three = joined s c.add-2.new.self c.add-3.new.self ((44 ∷ 34 ∷ []) ++ name) (34 ∷ 58 ∷ []) two c.in_ok-add-3.ensures.added in
    last_joined c.add_string.result s c.add-3.new.self c.add_string.new.text (((44 ∷ 34 ∷ []) ++ name) ++ 34 ∷ 58 ∷ []) (string_json c.args.bytes.now) three c.add_string.ensures

use Rattle.std.proofs.Common.{◌∙◌, ap, ◌++◌, codes, None}
use Rattle.answer_json.specs.Faults.{line_fault_json}
use Rattle.live_turns.specs.LiveTexts.{bad_json}
use Rattle.live_turns.proofs.live.telling.bad_json.Goals as goal

pub returns : goal.returns
unfolding bad_json
returns c =
    let one = c.in_ok-add.ensures.added ∙ ap (λ t. t ++ codes ",\"fault\":") c.in_ok-text.ensures in
    let two = c.in_ok-add_line_fault.ensures ∙ ap (λ t. t ++ line_fault_json c.args.number c.args.name.now None) one in
    c.into_bytes.ensures ∙ c.in_ok-add-2.ensures.added ∙ ap (λ t. t ++ codes "}\n") two

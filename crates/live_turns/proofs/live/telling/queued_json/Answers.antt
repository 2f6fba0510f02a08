use Rattle.std.proofs.Common.{◌∙◌, ap, ◌++◌, codes}
use Rattle.answer_json.specs.Frames.{member_json}
use Rattle.live_turns.specs.LiveTexts.{queued_json}
use Rattle.live_turns.proofs.live.telling.queued_json.Goals as goal

pub returns : goal.returns
unfolding queued_json
returns c =
    let one = c.in_ok-add_member.ensures ∙ ap (λ t. t ++ member_json (codes "queued") c.args.word.now) c.in_ok-text.ensures in
    c.into_bytes.ensures ∙ c.in_ok-add.ensures.added ∙ ap (λ t. t ++ codes "}\n") one

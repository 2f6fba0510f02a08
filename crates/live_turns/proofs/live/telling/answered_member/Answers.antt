use Rattle.std.proofs.Common.{◌∙◌, ap, ◌++◌, codes}
use Rattle.answer_json.specs.Frames.{count_json}
use Rattle.live_turns.specs.LiveTexts.{answered_member}
use Rattle.live_turns.proofs.live.telling.answered_member.Goals as goal

pub returns : goal.returns
unfolding answered_member
returns c =
    let one = c.in_ok-add_count.ensures ∙ ap (λ t. t ++ count_json (codes "edition") c.args.n) c.in_ok-text.ensures in
    let two = c.in_ok-add.ensures.added ∙ ap (λ t. t ++ codes ",") one in
    let three = c.in_ok-add-2.ensures.added ∙ ap (λ t. t ++ c.args.member.now) two in
    c.into_bytes.ensures ∙ c.in_ok-add-3.ensures.added ∙ ap (λ t. t ++ codes "}\n") three

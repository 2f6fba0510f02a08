use Rattle.std.proofs.Common.{◌≡◌, ◌++◌, codes, subst}
use Rattle.answer_json.specs.Frames.{member_json, string_json}
use Rattle.answer_text.proofs.Joined.{joined, last_joined}
use Rattle.live_turns.specs.LiveTexts.{failed_json}
use Rattle.live_turns.proofs.live.news.add_failed_json.Goals as goal

pub returns : goal.returns
unfolding failed_json
returns c =
    let s = c.args.text.now in
    let named = subst (λ w. c.add_string.new.text ≡ c.add.new.self ++ string_json w) c.as_bytes.ensures.value c.in_ok-add_string.ensures in
    let a = codes "{\"day\":" in
    let b = a ++ string_json c.args.word.now in
    let message = member_json (codes "message") c.args.reason.now in
    let two = joined s c.add.new.self c.add_string.new.text a (string_json c.args.word.now) c.in_ok-add.ensures.added named in
    let three = joined s c.add_string.new.text c.add_member.new.text b message two c.in_ok-add_member.ensures in
    last_joined c.add-2.result s c.add_member.new.text c.add-2.new.self (b ++ message) (codes "}\n") three c.add-2.ensures.added

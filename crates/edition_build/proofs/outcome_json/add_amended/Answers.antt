use Rattle.std.proofs.Common.{◌≡◌, ◌++◌, codes, subst}
use Rattle.answer_json.specs.Frames.{count_json, string_json}
use Rattle.answer_text.proofs.Joined.{joined, last_joined}
use Rattle.edition_build.specs.OutcomeJson.{amended_json}
use Rattle.edition_build.proofs.outcome_json.add_amended.Goals as goal

pub returns : goal.returns
unfolding amended_json
returns c =
    let s = c.args.text.now in
    let named = subst (λ w. c.add_string.new.text ≡ c.add.new.self ++ string_json w) c.as_bytes.ensures.value c.in_ok-add_string.ensures in
    let a = codes "{\"day\":" in
    let b = a ++ string_json c.args.word.now in
    let number = count_json (codes "edition") c.args.number in
    let touched = count_json (codes "touched") c.args.touched in
    let kept = count_json (codes "kept") c.args.kept in
    let two = joined s c.add.new.self c.add_string.new.text a (string_json c.args.word.now) c.in_ok-add.ensures.added named in
    let three = joined s c.add_string.new.text c.add_count.new.text b number two c.in_ok-add_count.ensures in
    let four = joined s c.add_count.new.text c.add_count-2.new.text (b ++ number) touched three c.in_ok-add_count-2.ensures in
    let five = joined s c.add_count-2.new.text c.add_total.new.text (b ++ number ++ touched) kept four c.in_ok-add_total.ensures in
    last_joined c.add-2.result s c.add_total.new.text c.add-2.new.self (b ++ number ++ touched ++ kept) (codes "}\n") five c.add-2.ensures.added

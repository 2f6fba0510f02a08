use Rattle.std.proofs.Common.{◌≡◌, ◌++◌, codes, subst}
use Rattle.answer_json.specs.Frames.{count_json, string_json}
use Rattle.answer_text.proofs.Joined.{joined, last_joined}
use Rattle.lane_serve.specs.Json.{answered_json}
use Rattle.lane_serve.proofs.json.add_reply.Goals as goal

pub returns : goal.returns
unfolding answered_json
returns c =
    let s = c.args.text.now in
    let r = c.args.reply.now in
    let said = subst (λ t. c.add-3.new.self ≡ c.add-2.new.self ++ t) c.bytes.ensures c.in_ok-add-3.ensures.added in
    let a = codes "{\"lane\":" in
    let b = a ++ string_json c.args.name.now in
    let line = count_json (codes "request") r.line in
    let edition = count_json (codes "edition") r.edition in
    let two = joined s c.add.new.self c.add_string.new.text a (string_json c.args.name.now) c.in_ok-add.ensures.added c.in_ok-add_string.ensures in
    let three = joined s c.add_string.new.text c.add_count.new.text b line two c.in_ok-add_count.ensures in
    let four = joined s c.add_count.new.text c.add_count-2.new.text (b ++ line) edition three c.in_ok-add_count-2.ensures in
    let five = joined s c.add_count-2.new.text c.add-2.new.self (b ++ line ++ edition) (codes ",") four c.in_ok-add-2.ensures.added in
    let six = joined s c.add-2.new.self c.add-3.new.self (b ++ line ++ edition ++ codes ",") r.text five said in
    last_joined c.add-4.result s c.add-3.new.self c.add-4.new.self (b ++ line ++ edition ++ codes "," ++ r.text) (codes "}\n") six c.add-4.ensures.added

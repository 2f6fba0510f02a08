use Rattle.std.proofs.Common.{◌≡◌, ◌++◌, codes, subst, w32}
use Rattle.std.specs.Fmt.{signed_decimal}
use Rattle.std.specs.Prelude.{OnOk}
use Rattle.std.proofs.lemmas.Int.{to_z-of_z}
use Rattle.tb_base.specs.Clock.{time_text}
use Rattle.answer_text.proofs.Joined.{joined, last_joined}
use Rattle.answer_json.specs.Reached.{time_json}
use Rattle.answer_json.proofs.reached.add_time.Goals as goal

pub returns : goal.returns
unfolding time_json
returns c =
    let s = c.args.text.now in
    let time = c.args.time in
    let same = to_z-of_z w32 time c.ranges.time in
    let shown = subst (λ t. c.time.new.self ≡ c.add.new.self ++ time_text t) same c.in_ok-time.ensures in
    let counted = subst (λ t. OnOk c.add_seconds.result (c.add_seconds.new.text ≡ c.add-2.new.self ++ signed_decimal t)) same c.add_seconds.ensures in
    let a = codes "\"" in
    let b = a ++ time_text time in
    let two = joined s c.add.new.self c.time.new.self a (time_text time) c.in_ok-add.ensures.added shown in
    let three = joined s c.time.new.self c.add-2.new.self b (codes "\",") two c.in_ok-add-2.ensures.added in
    last_joined c.add_seconds.result s c.add-2.new.self c.add_seconds.new.text (b ++ codes "\",") (signed_decimal time) three counted

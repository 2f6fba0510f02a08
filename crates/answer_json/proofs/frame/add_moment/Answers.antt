use Rattle.std.proofs.Common.{◌≡◌, ◌++◌, ◌∷◌, [], codes, subst, w32}
use Rattle.std.specs.Fmt.{signed_decimal}
use Rattle.std.specs.Prelude.{OnOk}
use Rattle.std.proofs.lemmas.Int.{to_z-of_z}
use Rattle.tb_base.specs.Clock.{time_text}
use Rattle.answer_text.proofs.Joined.{joined, last_joined}
use Rattle.answer_json.specs.Frames.{moment}
use Rattle.answer_json.proofs.frame.add_moment.Goals as goal

pub returns : goal.returns
unfolding moment
returns c =
    let s = c.args.text.now in
    let name = c.args.name.now in
    let time = c.args.time in
    let same = to_z-of_z w32 time c.ranges.time in
    let shown = subst (λ t. c.time.new.self ≡ c.add-3.new.self ++ time_text t) same c.in_ok-time.ensures in
    let counted = subst (λ t. OnOk c.seconds.result (c.seconds.new.self ≡ c.add-6.new.self ++ signed_decimal t)) same c.seconds.ensures in
    let a = 34 ∷ [] in
    let b = a ++ name in
    let d = b ++ codes "\":\"" in
    let e = d ++ time_text time in
    let f = e ++ codes "\",\"" in
    let g = f ++ name in
    let h = g ++ codes "_seconds\":" in
    let two = joined s c.add.new.self c.add-2.new.self a name c.in_ok-add.ensures.added c.in_ok-add-2.ensures.added in
    let three = joined s c.add-2.new.self c.add-3.new.self b (codes "\":\"") two c.in_ok-add-3.ensures.added in
    let four = joined s c.add-3.new.self c.time.new.self d (time_text time) three shown in
    let five = joined s c.time.new.self c.add-4.new.self e (codes "\",\"") four c.in_ok-add-4.ensures.added in
    let six = joined s c.add-4.new.self c.add-5.new.self f name five c.in_ok-add-5.ensures.added in
    let seven = joined s c.add-5.new.self c.add-6.new.self g (codes "_seconds\":") six c.in_ok-add-6.ensures.added in
    last_joined c.seconds.result s c.add-6.new.self c.seconds.new.self h (signed_decimal time) seven counted

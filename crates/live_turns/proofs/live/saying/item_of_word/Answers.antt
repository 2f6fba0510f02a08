use Rattle.std.proofs.Common.{◌≡◌, ◌∙◌, ap, sym, ℕ, List, Option, None, true, if◌then◌else◌, arith, rules}
use Rattle.std.specs.Option.{option_and_then}
use Rattle.std.specs.Path.{rsplit_once}
use Rattle.std.specs.Str.{is_utf8}
use Rattle.live_turns.specs.LiveLines.{item_between, item_of_word}
use Rattle.live_turns.proofs.LastAt.{parted_last}
use Rattle.live_turns.proofs.live.saying.item_of_word.Goals as goal

item_is : (word text : List ℕ) (parts : Option (List ℕ × List ℕ)) → is_utf8 word ≡ true → text ≡ word → parts ≡ rsplit_once 64 text
    → item_of_word word ≡ option_and_then (λ p. item_between text p.0 p.1) parts
item_is word text parts u t p =
    ap (λ b. if b then option_and_then (λ q. item_between word q.0 q.1) (rsplit_once 64 word) else None) u
    ∙ ap (λ w. option_and_then (λ q. item_between w q.0 q.1) (rsplit_once 64 w)) (sym t)
    ∙ ap (λ o. option_and_then (λ q. item_between text q.0 q.1) o) (sym p)

pub returns-in-Some-rsplit_once : goal.returns-in-Some-rsplit_once
returns-in-Some-rsplit_once c =
    let split = parted_last 64 c.in-Some.text.now _ c.rsplit_once.ensures.cases (omega arith) in
    let is = item_is c.args.word.now c.in-Some.text.now _ c.in-Some.ensures.0 c.in-Some.ensures.1 split in
    rw is (grind rules)

pub returns-in-None : goal.returns-in-None
returns-in-None c =
    let split = parted_last 64 c.in-Some.text.now _ c.rsplit_once.ensures.cases (omega arith) in
    let is = item_is c.args.word.now c.in-Some.text.now _ c.in-Some.ensures.0 c.in-Some.ensures.1 split in
    rw is (grind rules)

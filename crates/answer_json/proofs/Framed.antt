-- Values that are added one after another are framed.
use Rattle.std.proofs.Common.{◌≡◌, ◌∙◌, refl, sym, ap, ℕ, suc, ◌<◌, List, ◌++◌, drop, flat_map, arith, append_assoc}
use Rattle.std.specs.Prelude.{Result, Ok, Err, OnOk}
use Rattle.tb_base.specs.Transfers.{numbers_below}
use Rattle.answer_text.proofs.Joined.{joined}
use Rattle.answer_json.specs.Frames.{between, closing, followers, framed, opening}
use Rattle.answer_json.specs.declared.frame.Frame.{Frame}
use Rattle.answer_json.proofs.Numbers.{framed_numbers, moved_ahead}

-- the first value, those that follow it, and what stands around them
framed_parts : (frame : Frame) (one more : List ℕ) (start a b c end w z : List ℕ) → w ≡ opening frame → z ≡ closing frame →
    a ≡ start ++ w → b ≡ a ++ one → c ≡ b ++ more → end ≡ c ++ z → end ≡ start ++ (opening frame ++ one ++ more ++ closing frame)
framed_parts frame one more start a b c end w z hw hz ha hb hc e =
    let closed : end ≡ c ++ closing frame = e ∙ ap (λ t. c ++ t) hz in
    let opened : a ≡ start ++ opening frame = ha ∙ ap (λ t. start ++ t) hw in
    let two = joined start a b (opening frame) one opened hb in
    let three = joined start b c (opening frame ++ one) more two hc in
    joined start c end (opening frame ++ one ++ more) (closing frame) three closed

pub framed_below : {A E : Type 0} (step : Result A E) (frame : Frame) (json_of : ℕ → List ℕ) (n : ℕ) (start a b c end w z : List ℕ) → 0 < n →
    w ≡ opening frame → z ≡ closing frame → a ≡ start ++ w → b ≡ a ++ json_of 0 → c ≡ b ++ followers frame json_of (drop 1 (numbers_below n)) → OnOk step (end ≡ c ++ z) →
    OnOk step (end ≡ start ++ framed frame json_of (numbers_below n))
framed_below (Ok v) frame json_of n start a b c end w z some hw hz ha hb hc e =
    framed_parts frame (json_of 0) (followers frame json_of (drop 1 (numbers_below n))) start a b c end w z hw hz ha hb hc e
    ∙ ap (λ t. start ++ t) (sym (framed_numbers frame json_of n some))
framed_below (Err v) frame json_of n start a b c end w z some hw hz ha hb hc e = tt

-- the same, where what begins each value was added with the one before
pub framed_ahead : {A E : Type 0} (step : Result A E) (frame : Frame) (begin : List ℕ) (json_of rest next : ℕ → List ℕ) (last n : ℕ) (start a b c d end w z : List ℕ) →
    ((k : ℕ) → json_of k ≡ begin ++ rest k) → ((k : ℕ) → next k ≡ rest k ++ (between frame ++ begin)) → n ≡ suc last →
    w ≡ opening frame → z ≡ closing frame → a ≡ start ++ w → b ≡ a ++ begin → c ≡ b ++ flat_map next (numbers_below last) → d ≡ c ++ rest last → OnOk step (end ≡ d ++ z) →
    OnOk step (end ≡ start ++ framed frame json_of (numbers_below n))
framed_ahead (Ok v) frame begin json_of rest next last n start a b c d end w z begins nexts count hw hz ha hb hc hd e =
    let more = followers frame json_of (drop 1 (numbers_below n)) in
    let two = joined a b c begin (flat_map next (numbers_below last)) hb hc in
    let three = joined a c d (begin ++ flat_map next (numbers_below last)) (rest last) two hd in
    let moved = moved_ahead frame begin json_of rest next last begins nexts ∙ ap (λ k. json_of 0 ++ followers frame json_of (drop 1 (numbers_below k))) (sym count) in
    let body : d ≡ a ++ json_of 0 ++ more = three ∙ ap (λ t. a ++ t) moved ∙ sym (append_assoc a (json_of 0) more) in
    framed_parts frame (json_of 0) more start a (a ++ json_of 0) d end w z hw hz ha refl body e
    ∙ ap (λ t. start ++ t) (sym (framed_numbers frame json_of n (omega (arith, count))))
framed_ahead (Err v) frame begin json_of rest next last n start a b c d end w z begins nexts count hw hz ha hb hc hd e = tt

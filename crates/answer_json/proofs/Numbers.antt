-- The numbers from 1 on, one after another.
use Rattle.std.proofs.Common.{◌≡◌, ◌∙◌, refl, sym, ap, ℕ, zero, suc, ◌+◌, ◌<◌, List, [], ◌∷◌, ◌++◌, drop, flat_map, arith, add-one, append-nil, append_assoc}
use Rattle.std.proofs.lemmas.Grind.{flat_map-append}
use Rattle.tb_base.specs.Transfers.{numbers_below}
use Rattle.answer_json.specs.Frames.{between, closing, followers, framed, nothing, opening}
use Rattle.answer_json.specs.declared.frame.Frame.{Frame}

-- 0 comes first
pub first_below : (n : ℕ) → 0 < n → numbers_below n ≡ 0 ∷ drop 1 (numbers_below n)
first_below zero h = absurd (omega arith)
first_below (suc zero) h = refl
first_below (suc (suc n)) h =
    let before = first_below (suc n) (omega arith) in
    ap (λ ns. ns ++ suc n ∷ []) before ∙ sym (ap (λ ns. 0 ∷ drop 1 (ns ++ suc n ∷ [])) before)

-- and each later one last
pub later_below : (n : ℕ) → 0 < n → drop 1 (numbers_below (suc n)) ≡ drop 1 (numbers_below n) ++ n ∷ []
later_below n h = ap (λ ns. drop 1 (ns ++ n ∷ [])) (first_below n h)

-- what is made for each of them, one more
pub later_more : (f : ℕ → List ℕ) (n : ℕ) → 0 < n → flat_map f (drop 1 (numbers_below (n + 1))) ≡ flat_map f (drop 1 (numbers_below n)) ++ f n
later_more f n h =
    rw add-one (ap (flat_map f) (later_below n h) ∙ flat_map-append f (drop 1 (numbers_below n)) (n ∷ []) ∙ ap (λ bytes. flat_map f (drop 1 (numbers_below n)) ++ bytes) (append-nil (f n)))

pub followers_more : (frame : Frame) (f : ℕ → List ℕ) (n : ℕ) → 0 < n → followers frame f (drop 1 (numbers_below (n + 1))) ≡ followers frame f (drop 1 (numbers_below n)) ++ (between frame ++ f n)
followers_more frame f n h = later_more (λ x. between frame ++ f x) n h

-- what is framed of them
pub framed_numbers : (frame : Frame) (f : ℕ → List ℕ) (n : ℕ) → 0 < n → framed frame f (numbers_below n) ≡ opening frame ++ f 0 ++ followers frame f (drop 1 (numbers_below n)) ++ closing frame
framed_numbers frame f n h = ap (framed frame f) (first_below n h)

pub framed_none : (frame : Frame) (f : ℕ → List ℕ) (n : ℕ) → n ≡ 0 → framed frame f (numbers_below n) ≡ nothing frame
framed_none frame f n h = ap (λ k. framed frame f (numbers_below k)) h

-- what is made for each number from 0 on, one more
made_more : (f : ℕ → List ℕ) (n : ℕ) → flat_map f (numbers_below (suc n)) ≡ flat_map f (numbers_below n) ++ f n
made_more f n = flat_map-append f (numbers_below n) (n ∷ []) ∙ ap (λ bytes. flat_map f (numbers_below n) ++ bytes) (append-nil (f n))

pub numbers_more : (f : ℕ → List ℕ) (n : ℕ) → flat_map f (numbers_below (n + 1)) ≡ flat_map f (numbers_below n) ++ f n
numbers_more f n = rw add-one (made_more f n)

-- what begins each, moved behind the one before
one_ahead : (begin done rest sep first later done' rest' later' : List ℕ) →
    begin ++ done ++ rest ≡ first ++ later → done' ≡ done ++ (rest ++ (sep ++ begin)) → later' ≡ later ++ (sep ++ (begin ++ rest')) →
    begin ++ done' ++ rest' ≡ first ++ later'
one_ahead begin done rest sep first later done' rest' later' before more next =
    ap (λ l. begin ++ l ++ rest') more
    ∙ ap (λ l. l ++ rest') (sym (append_assoc begin done (rest ++ (sep ++ begin))))
    ∙ ap (λ l. l ++ rest') (sym (append_assoc (begin ++ done) rest (sep ++ begin)))
    ∙ append_assoc (begin ++ done ++ rest) (sep ++ begin) rest'
    ∙ ap (λ l. (begin ++ done ++ rest) ++ l) (append_assoc sep begin rest')
    ∙ ap (λ l. l ++ (sep ++ (begin ++ rest'))) before
    ∙ append_assoc first later (sep ++ (begin ++ rest'))
    ∙ ap (λ l. first ++ l) (sym next)

pub moved_ahead : (frame : Frame) (begin : List ℕ) (f rest next : ℕ → List ℕ) (n : ℕ) → ((k : ℕ) → f k ≡ begin ++ rest k) → ((k : ℕ) → next k ≡ rest k ++ (between frame ++ begin)) →
    begin ++ flat_map next (numbers_below n) ++ rest n ≡ f 0 ++ followers frame f (drop 1 (numbers_below (suc n)))
moved_ahead frame begin f rest next zero begins nexts =
    ap (λ l. l ++ rest 0) (append-nil begin) ∙ sym (begins 0) ∙ sym (append-nil (f 0))
moved_ahead frame begin f rest next (suc m) begins nexts =
    let follow = λ (x : ℕ). between frame ++ f x in
    let numbers = numbers_below m in
    let later = drop 1 (numbers_below (suc m)) in
    let more : flat_map next (numbers_below (suc m)) ≡ flat_map next numbers ++ (rest m ++ (between frame ++ begin)) =
    made_more next m ∙ ap (λ l. flat_map next numbers ++ l) (nexts m) in
    let others : followers frame f (drop 1 (numbers_below (suc (suc m)))) ≡ followers frame f later ++ (between frame ++ (begin ++ rest (suc m))) =
    ap (flat_map follow) (later_below (suc m) (omega arith)) ∙ flat_map-append follow later (suc m ∷ [])
    ∙ ap (λ l. flat_map follow later ++ l) (append-nil (follow (suc m)) ∙ ap (λ l. between frame ++ l) (begins (suc m))) in
    one_ahead begin (flat_map next numbers) (rest m) (between frame) (f 0) (followers frame f later) (flat_map next (numbers_below (suc m))) (rest (suc m)) (followers frame f (drop 1 (numbers_below (suc (suc m)))))
    (moved_ahead frame begin f rest next m begins nexts) more others

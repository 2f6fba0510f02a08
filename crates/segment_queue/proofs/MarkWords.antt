-- What words above a floor are seen as.
use Rattle.std.proofs.Common.{◌≡◌, ◌∙◌, sym, ap, subst, refl, ℕ, zero, suc, ◌+◌, ◌-◌, ◌<◌, ◌≤◌, ◌⊎◌, inl, inr, List, [], ◌∷◌, ◌++◌, length, length-set, map, take, replicate, set, get_or, None, Some, arith, Bool, true, false, cond}
use Rattle.std.specs.Prelude.{All, nat_le, nat_lt}
use Rattle.std.proofs.lemmas.List.{get_or-map, length-map, length-replicate, map-append, take_all}
use Rattle.std.proofs.lemmas.List.Elements.{All-get_or, All-head, All-set, All-tail, All-replicate, All-weaker}
use Rattle.std.proofs.lemmas.Bool.{cases_lt}
use Rattle.std.proofs.lemmas.Bool.Decides.{nat_tests}
use Rattle.segment_queue.specs.Words.{IsAbove, is_at_most, lowered_marks, lowered_words, mark_in}

either : (w v : ℕ) → (w ≤ v) ⊎ (v < w)
either w v = elim (cases_lt v w) [ inl h ↦ inr h | inr h ↦ inl h ]

-- a word of an earlier search has no index
earlier_none : (f w : ℕ) → f + 10000000 ≤ w → mark_in f w ≡ None
earlier_none f w h =
    let test : nat_lt w (f + 10000000) ≡ false = grind (arith, nat_tests, h) in
    ap (λ b. cond b (Some (w - f)) None) test

pub none_marked : (f n : ℕ) (ws : List ℕ) → All (λ w. f + 10000000 ≤ w) ws → n ≡ length ws → map (mark_in f) ws ≡ replicate n None
none_marked f zero [] earlier e = refl
none_marked f (suc n) [] earlier e = absurd (omega (arith, e))
none_marked f zero (w ∷ ws) earlier e = absurd (omega (arith, e))
none_marked f (suc n) (w ∷ ws) earlier e =
    let first : mark_in f w ≡ None = earlier_none f w (All-head (λ x. f + 10000000 ≤ x) w ws earlier) in
    let rest : map (mark_in f) ws ≡ replicate n None = none_marked f n ws (All-tail (λ x. f + 10000000 ≤ x) w ws earlier) (omega (arith, e)) in
    cc

-- the word that is written
written : (f at : ℕ) → at < 10000000 → mark_in f (f + at) ≡ Some at
written f at h =
    let test : nat_lt (f + at) (f + 10000000) ≡ true = grind (arith, nat_tests, h) in
    let index : f + at - f ≡ at = omega arith in
    ap (λ b. cond b (Some (f + at - f)) None) test ∙ ap Some index

pub set_marked : (f : ℕ) (ws : List ℕ) (i at : ℕ) → at < 10000000 → map (mark_in f) (set ws i (f + at)) ≡ set (map (mark_in f) ws) i (Some at)
set_marked f [] i at h = refl
set_marked f (w ∷ ws) zero at h = ap (λ m. m ∷ map (mark_in f) ws) (written f at h)
set_marked f (w ∷ ws) (suc i) at h = ap (λ rest. mark_in f w ∷ rest) (set_marked f ws i at h)

-- words that no search has written have no index
pub unmarked : (f n : ℕ) → f + 10000000 ≤ 4294967295 → map (mark_in f) (replicate n 4294967295) ≡ replicate n None
unmarked f n h =
    none_marked f n (replicate n 4294967295) (All-replicate (λ (w : ℕ). f + 10000000 ≤ w) n 4294967295 h)
    (sym (length-replicate n 4294967295))

-- more words, which no search has written
pub grown_marked : (f n : ℕ) (ws vs : List ℕ) → f + 10000000 ≤ 4294967295 → length ws ≤ n → vs ≡ take n ws ++ replicate (n - length ws) 4294967295
    → map (mark_in f) vs ≡ map (mark_in f) ws ++ replicate (n - length (map (mark_in f) ws)) None
grown_marked f n ws vs low all e =
    let added : List ℕ = replicate (n - length ws) 4294967295 in
    let whole : take n ws ≡ ws = take_all n ws all in
    let long : length (map (mark_in f) ws) ≡ length ws = length-map ws (mark_in f) in
    ap (map (mark_in f)) (e ∙ ap (λ xs. xs ++ added) whole)
    ∙ map-append (mark_in f) ws added
    ∙ ap (λ ys. map (mark_in f) ws ++ ys) (unmarked f (n - length ws) low ∙ ap (λ k. replicate (n - k) None) (sym long))

-- a word that is at most the floor and an index is seen as an index that is at most this one
word_test : (f at w : ℕ) → at < 10000000 → nat_le w (f + at) ≡ is_at_most at (mark_in f w)
word_test f at w few = by_test (nat_lt w (f + 10000000)) refl
  where
    as_low : (w ≤ f + at) ⊎ (f + at < w) → nat_le w (f + at) ≡ nat_le (w - f) at
    as_low (inl h) =
        let here : nat_le w (f + at) ≡ true = grind (arith, nat_tests, h) in
        let there : nat_le (w - f) at ≡ true = grind (arith, nat_tests, h) in
        here ∙ sym there
    as_low (inr h) =
        let here : nat_le w (f + at) ≡ false = grind (arith, nat_tests, h) in
        let there : nat_le (w - f) at ≡ false = grind (arith, nat_tests, h) in
        here ∙ sym there

    by_test : (b : Bool) → b ≡ nat_lt w (f + 10000000) → nat_le w (f + at) ≡ is_at_most at (cond b (Some (w - f)) None)
    by_test true e = as_low (either w (f + at))
    by_test false e =
        let high : f + 10000000 ≤ w = grind (arith, nat_tests, e) in
        let past : nat_le w (f + at) ≡ false = grind (arith, nat_tests, high, few) in
        past

-- lowered words are seen as lowered marks
pub lowered_seen : (f at : ℕ) (trips ws : List ℕ) → at < 10000000 → All (λ t. t < length ws) trips → map (mark_in f) (lowered_words trips (f + at) ws) ≡ lowered_marks trips at (map (mark_in f) ws)
lowered_seen f at [] ws few inside = refl
lowered_seen f at (t ∷ trips) ws few inside = by_test (nat_le (get_or ws t 0) (f + at)) (lowered_seen f at trips (set ws t (f + at)) few rest) ∙ ap (λ b. cond b (map (mark_in f) ws) (lowered_marks trips at (set (map (mark_in f) ws) t (Some at)))) same
  where
    first : t < length ws
    first = All-head (λ x. x < length ws) t trips inside

    rest : All (λ x. x < length (set ws t (f + at))) trips
    rest = All-weaker (λ x. x < length ws) (λ x. x < length (set ws t (f + at))) (λ x h. omega (arith, h, length-set ws t (f + at))) trips (All-tail (λ x. x < length ws) t trips inside)

    same : nat_le (get_or ws t 0) (f + at) ≡ is_at_most at (get_or (map (mark_in f) ws) t None)
    same = word_test f at (get_or ws t 0) few ∙ ap (is_at_most at) (sym (get_or-map (mark_in f) ws t 0 None first))

    by_test : (b : Bool) → map (mark_in f) (lowered_words trips (f + at) (set ws t (f + at))) ≡ lowered_marks trips at (map (mark_in f) (set ws t (f + at))) →
        map (mark_in f) (cond b ws (lowered_words trips (f + at) (set ws t (f + at)))) ≡ cond b (map (mark_in f) ws) (lowered_marks trips at (set (map (mark_in f) ws) t (Some at)))
    by_test true more = refl
    by_test false more = more ∙ ap (lowered_marks trips at) (set_marked f ws t at few)

-- lowered words stay at or above the floor
pub lowered_above : (f at : ℕ) (trips ws : List ℕ) → All (λ w. f ≤ w) ws → All (λ w. f ≤ w) (lowered_words trips (f + at) ws)
lowered_above f at [] ws above = above
lowered_above f at (t ∷ trips) ws above = elim (nat_le (get_or ws t 0) (f + at)) as (λ b. All (λ w. f ≤ w) (cond b ws (lowered_words trips (f + at) (set ws t (f + at))))) [
  | true ↦ above
  | false ↦ lowered_above f at trips (set ws t (f + at)) (All-set (λ w. f ≤ w) ws t (f + at) (omega arith) above)
]

-- no word lies below the floor
pub above_floor : (f : ℕ) (ws : List ℕ) (t w : ℕ) → All (λ x. f ≤ x) ws → t < length ws → w ≡ get_or ws t w → f ≤ w
above_floor f ws t w all inside is = omega (arith, is, All-get_or (λ x. f ≤ x) ws t w inside all)

-- a word is seen by how far above it lies
pub word_above : (f : ℕ) (ws : List ℕ) (t w : ℕ) → All (λ x. f ≤ x) ws → t < length ws → w ≡ get_or ws t w → IsAbove (w - f) (get_or (map (mark_in f) ws) t None)
word_above f ws t w all inside is =
    subst (λ o. IsAbove (w - f) o) (sym (get_or-map (mark_in f) ws t w None inside ∙ ap (mark_in f) (sym is))) (by_test (nat_lt w (f + 10000000)) refl)
  where
    by_test : (b : Bool) → b ≡ nat_lt w (f + 10000000) → IsAbove (w - f) (cond b (Some (w - f)) None)
    by_test true e = (let low : w < f + 10000000 = grind (arith, nat_tests, e) in (refl, omega (arith, low, above_floor f ws t w all inside is)))
    by_test false e = (let high : f + 10000000 ≤ w = grind (arith, nat_tests, e) in omega (arith, high))

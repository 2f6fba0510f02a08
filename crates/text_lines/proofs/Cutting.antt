-- The first line of a text, by the place of its first line feed.
use Rattle.std.proofs.Common.{◌≡◌, ◌∙◌, refl, ap, sym, ℕ, zero, suc, ◌-◌, ◌<◌, ◌≤◌, ◌==◌, List, [], ◌∷◌, ◌++◌, length, take, drop, Bool, true, false, append_assoc, length-drop, arith}
use Rattle.std.proofs.lemmas.List.{take_rest}
use Rattle.std.specs.Prelude.{slice_index, if◌then◌else◌}
use Rattle.text_lines.specs.Lines.{last_line, lines_from, without_cr}

append-nothing : (xs : List ℕ) → xs ++ [] ≡ xs
append-nothing [] = refl
append-nothing (x ∷ xs) = ap (λ ys. x ∷ ys) (append-nothing xs)

-- the lines of a text that begins with this byte
module _ (begun rest : List ℕ) (b : ℕ) where
  abbrev behind : Bool → List (List ℕ)
  behind feed = if feed then without_cr begun ∷ lines_from [] rest else lines_from (begun ++ b ∷ []) rest

  at_feed : (b == 10) ≡ true → lines_from begun (b ∷ rest) ≡ without_cr begun ∷ lines_from [] rest
  at_feed is = ap behind is

  no_feed : (b == 10) ≡ false → lines_from begun (b ∷ rest) ≡ lines_from (begun ++ b ∷ []) rest
  no_feed is = ap behind is

is_false : (b : Bool) → (b ≡ true → ⊥) → b ≡ false
is_false true not = absurd (not refl)
is_false false not = refl

-- without a line feed the text is one line
pub uncut : (begun text : List ℕ) → ((k : ℕ) → k < length text → (slice_index text k == 10) ≡ true → ⊥) → lines_from begun text ≡ last_line (begun ++ text)
uncut begun [] nowhere = ap last_line (sym (append-nothing begun))
uncut begun (b ∷ rest) nowhere =
    no_feed begun rest b (is_false (b == 10) (nowhere 0 (omega arith)))
    ∙ uncut (begun ++ b ∷ []) rest (λ k lt is. nowhere (suc k) (omega (arith, lt)) is)
    ∙ ap last_line (append_assoc begun (b ∷ []) rest)

-- the first line feed ends the first line
pub cut : (begun text : List ℕ) (n : ℕ) → n < length text → ((k : ℕ) → k < n → (slice_index text k == 10) ≡ true → ⊥) → (slice_index text n == 10) ≡ true →
    lines_from begun text ≡ without_cr (begun ++ take n text) ∷ lines_from [] (drop (suc n) text)
cut begun [] n inside before is = absurd (omega (arith, inside))
cut begun (b ∷ rest) zero inside before is =
    at_feed begun rest b is ∙ ap (λ line. without_cr line ∷ lines_from [] rest) (sym (append-nothing begun))
cut begun (b ∷ rest) (suc n) inside before is =
    no_feed begun rest b (is_false (b == 10) (before 0 (omega arith)))
    ∙ cut (begun ++ b ∷ []) rest n (omega (arith, inside)) (λ k lt at. before (suc k) (omega (arith, lt)) at) is
    ∙ ap (λ line. without_cr line ∷ lines_from [] (drop (suc n) rest)) (append_assoc begun (b ∷ []) (take n rest))

-- a text with bytes but no line feed
pub one_line : (text : List ℕ) → 0 < length text → last_line text ≡ without_cr text ∷ []
one_line [] some = absurd (omega (arith, some))
one_line (b ∷ text) some = refl

-- nothing is taken
pub nothing : (n : ℕ) (xs : List ℕ) → take (n - n) (drop n xs) ≡ []
nothing n xs = let none : n - n ≡ 0 = omega arith in ap (λ k. take k (drop n xs)) none

-- what stands from a place on, by its own length
pub behind_place : (text : List ℕ) (n : ℕ) → n ≤ length text → take (length text - n) (drop n text) ≡ drop (length text - length (take (length text - n) (drop n text))) text
behind_place text n within =
    let whole : take (length text - n) (drop n text) ≡ drop n text = take_rest text n in
    let long : length (take (length text - n) (drop n text)) ≡ length text - n = ap length whole ∙ length-drop n text in
    let place : n ≡ length text - length (take (length text - n) (drop n text)) = omega (arith, within, long) in
    whole ∙ ap (λ k. drop k text) place

-- Texts of which nothing is cut.
use Rattle.std.proofs.Common.{◌≡◌, ◌∙◌, sym, ap, subst, refl, ℕ, ◌-◌, ◌<◌, List, [], ◌∷◌, length, get_or, reverse, false, arith}
use Rattle.std.proofs.lemmas.List.{get_or-reverse, reverse-reverse}
use Rattle.gtfs_rows.specs.RawRows.{cut, cut_start, is_blank}
use Rattle.gtfs_rows.proofs.PlainSteps.{other_byte}

past_blanks : (b : ℕ) → 32 < b → is_blank b ≡ false
past_blanks b high = rw (other_byte b 32 (λ e. absurd (omega (arith, e, high))), other_byte b 9 (λ e. absurd (omega (arith, e, high)))) refl

start_kept : (xs : List ℕ) → 32 < get_or xs 0 0 → cut_start xs ≡ xs
start_kept [] high = refl
start_kept (x ∷ xs) high = rw (past_blanks x high) refl

pub nothing_cut : (text : List ℕ) → 0 < length text → 32 < get_or text 0 0 → 32 < get_or text (length text - 1) 0 → cut text ≡ text
nothing_cut text some first last =
    let at : length text - 1 ≡ length text - 1 - 0 = omega arith in
    let front : 32 < get_or (reverse text) 0 0 = subst (λ b. 32 < b) (ap (λ k. get_or text k 0) at ∙ sym (get_or-reverse text 0 0 some)) last in
    ap (λ (xs : List ℕ). reverse (cut_start (reverse xs))) (start_kept text first)
    ∙ ap (λ (xs : List ℕ). reverse xs) (start_kept (reverse text) front)
    ∙ reverse-reverse text

pub empty_cut : (text : List ℕ) → length text ≡ 0 → cut text ≡ text
empty_cut [] none = refl
empty_cut (x ∷ xs) none = absurd (omega (arith, none))

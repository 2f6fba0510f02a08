-- The words of the kept lines are those of the lines.
use Rattle.std.proofs.Common.{◌≡◌, ◌∙◌, refl, ap, ap₂, sym, ℕ, zero, suc, ◌+◌, ◌-◌, ◌<◌, ◌≤◌, ◌==◌, List, [], ◌∷◌, ◌++◌, length, take, drop, Bool, true, false, length-take, arith, if◌then◌else◌, None}
use Rattle.std.specs.Prelude.{map, bytes_eq, nat_le, ◌&&◌}
use Rattle.std.specs.Str.{is_utf8}
use Rattle.std.proofs.lemmas.List.{take_all}
use Rattle.std.proofs.lemmas.Bool.Decides.{nat_tests}
use Rattle.text_lines.specs.LineWords.{is_line, line_words}
use Rattle.text_lines.specs.Lines.{last_line, lines_from, lines_of, without_cr}
use Rattle.live_turns.specs.Coming.{begun_by, ended, kept_lines}
use Rattle.live_turns.proofs.Pieces.{kept_on}

module _ {A : Type 0} (g : List ℕ → A) (m : ℕ) (same : (b : List ℕ) → g (without_cr (take (suc m) b)) ≡ g (without_cr b)) where
  abbrev all_from : List ℕ → List ℕ → List (List ℕ)
  all_from begun text = ended (suc m) begun text ++ last_line (begun_by (suc m) begun text)

  pub sees_same : (b text : List ℕ) → map g (all_from (take (suc m) b) text) ≡ map g (lines_from b text)
  sees_same [] [] = refl
  sees_same (x ∷ xs) [] = ap (λ y. y ∷ []) (same (x ∷ xs))
  sees_same b (x ∷ rest) = by (x == 10) (sees_same [] rest) (sees_same (b ++ x ∷ []) rest) where
    by : (c : Bool) → map g (all_from [] rest) ≡ map g (lines_from [] rest)
        → map g (all_from (take (suc m) (b ++ x ∷ [])) rest) ≡ map g (lines_from (b ++ x ∷ []) rest) →
        map g ((if c then without_cr (take (suc m) b) ∷ ended (suc m) [] rest else ended (suc m) (take (suc m) (take (suc m) b ++ x ∷ [])) rest)
        ++ last_line (if c then begun_by (suc m) [] rest else begun_by (suc m) (take (suc m) (take (suc m) b ++ x ∷ [])) rest))
        ≡ map g (if c then without_cr b ∷ lines_from [] rest else lines_from (b ++ x ∷ []) rest)
    by true fed on = ap₂ (λ y ys. y ∷ ys) (same b) fed
    by false fed on = ap (λ k. map g (all_from k rest)) (kept_on (suc m) b (x ∷ [])) ∙ on

long_cr : (t : List ℕ) → length t ≤ length (without_cr t) + 1
long_cr t = by (bytes_eq (drop (length t - 1) t) (13 ∷ [])) where
  by : (c : Bool) → length t ≤ length (if c then take (length t - 1) t else t) + 1
  by true = omega (arith, length-take (length t - 1) t)
  by false = omega arith

no_line : (t : List ℕ) → 1024 < length t → line_words t ≡ None
no_line t long = let no : nat_le (length t) 1024 ≡ false = grind (arith, nat_tests) in
    let is : is_line t ≡ false = ap (λ c. c && is_utf8 t) no in
    rw is refl

pub same_words : (m : ℕ) → 1025 ≤ m → (b : List ℕ) → line_words (without_cr (take (suc m) b)) ≡ line_words (without_cr b)
same_words m le b = by (nat_le (length b) (suc m)) refl where
  by : (c : Bool) → nat_le (length b) (suc m) ≡ c → line_words (without_cr (take (suc m) b)) ≡ line_words (without_cr b)
  by true is = let short : length b ≤ suc m = grind (arith, nat_tests) in ap (λ t. line_words (without_cr t)) (take_all (suc m) b short)
  by false is = let long : suc m < length b = grind (arith, nat_tests) in
      let cut = take (suc m) b in
      no_line (without_cr cut) (omega (arith, le, long, long_cr cut, length-take (suc m) b)) ∙ sym (no_line (without_cr b) (omega (arith, le, long, long_cr b)))

pub words_same : (m : ℕ) → 1026 ≤ m → (text : List ℕ) → map line_words (kept_lines m text) ≡ map line_words (lines_of text)
words_same zero le text = absurd (omega (arith, le))
words_same (suc m) le text = sees_same line_words m (same_words m (omega (arith, le))) [] text

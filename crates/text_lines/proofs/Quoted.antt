-- What is read of words between quotes.
use Rattle.std.proofs.Common.{◌≡◌, ◌∙◌, refl, ap, sym, subst, arith, ℕ, ◌==◌, List, [], ◌∷◌, ◌++◌, Bool, true, false, append_assoc, Some, None}
use Rattle.std.proofs.lemmas.List.{append-nil}
use Rattle.std.proofs.lemmas.Bool.Decides.{nat_tests}
use Rattle.std.specs.Option.{option_and_then}
use Rattle.std.specs.Prelude.{if◌then◌else◌}
use Rattle.text_lines.specs.LineWords.{Reading, Between, Quoted, Closed, is_line, line_words, words_from}
use Rattle.text_lines.specs.Quoted.{doubled, further, quoted_line}

abbrev within : List (List ℕ) → List ℕ → Reading
within words word = record { words = words; within = Quoted word }

abbrev behind : List (List ℕ) → List ℕ → Reading
behind words word = record { words = words; within = Closed word }

-- the next byte of a quoted word
module _ (words : List (List ℕ)) (word more rest : List ℕ) (b : ℕ) where
  abbrev Goes : List ℕ → Type 0
  Goes text = words_from (within words word) text ≡ words_from (within words (word ++ b ∷ [])) (doubled more ++ 34 ∷ rest)

  at_quote : b ≡ 34 → Goes (b ∷ b ∷ (doubled more ++ 34 ∷ rest))
  at_quote e = subst (λ (q : ℕ). words_from (within words word) (q ∷ q ∷ (doubled more ++ 34 ∷ rest)) ≡ words_from (within words (word ++ q ∷ [])) (doubled more ++ 34 ∷ rest)) (sym e) refl

  by_test : (q : Bool) → q ≡ (b == 34) → Goes ((if q then b ∷ b ∷ doubled more else b ∷ doubled more) ++ 34 ∷ rest)
  by_test true e = at_quote (grind (arith, nat_tests, e))
  by_test false e =
      ap (λ (q : Bool). option_and_then (λ next. words_from next (doubled more ++ 34 ∷ rest)) (if q then Some (behind words word) else Some (within words (word ++ b ∷ [])))) (sym e)

-- a quoted word is read to its closing quote
to_its_end : (words : List (List ℕ)) (word more rest : List ℕ) → words_from (within words word) (doubled more ++ 34 ∷ rest) ≡ words_from (behind words (word ++ more)) rest
to_its_end words word [] rest = ap (λ w. words_from (behind words w) rest) (sym (append-nil word))
to_its_end words word (b ∷ more) rest =
    by_test words word more rest b (b == 34) refl
    ∙ to_its_end words (word ++ b ∷ []) more rest
    ∙ ap (λ w. words_from (behind words w) rest) (append_assoc word (b ∷ []) more)

-- behind a word the further ones are read
further_read : (words : List (List ℕ)) (word : List ℕ) (more : List (List ℕ)) → words_from (behind words word) (further more) ≡ Some (words ++ word ∷ more)
further_read words word [] = refl
further_read words word (next ∷ more) =
    to_its_end (words ++ word ∷ []) [] next (further more)
    ∙ further_read (words ++ word ∷ []) next more
    ∙ ap Some (append_assoc words (word ∷ []) (next ∷ more))

pub are_read : (words : List (List ℕ)) → is_line (quoted_line words) ≡ true → line_words (quoted_line words) ≡ Some words
are_read [] short = ap (λ (b : Bool). if b then Some [] else None) short
are_read (word ∷ more) short =
    ap (λ (b : Bool). if b then words_from (record { words = []; within = Between }) (quoted_line (word ∷ more)) else None) short
    ∙ to_its_end [] [] word (further more)
    ∙ further_read [] word more

-- Words between quotes.
use Rattle.std.specs.Prelude.{ℕ, List, [], ◌∷◌, ◌++◌, if◌then◌else◌}
use Rattle.text_lines.specs.LineWords.{is_quote}

-- the bytes of a word, with each quote twice
abbrev pub doubled : List ℕ → List ℕ
doubled [] = []
doubled (b ∷ rest) = if is_quote b then b ∷ b ∷ doubled rest else b ∷ doubled rest

-- a word between quotes, and what stands behind it
abbrev pub quoted : List ℕ → List ℕ → List ℕ
quoted word behind = 34 ∷ (doubled word ++ 34 ∷ behind)

-- each of the words between quotes, behind a space
abbrev pub further : List (List ℕ) → List ℕ
further [] = []
further (word ∷ words) = 32 ∷ quoted word (further words)

-- a line of words: each between quotes, and a space between two of them
abbrev pub quoted_line : List (List ℕ) → List ℕ
quoted_line [] = []
quoted_line (word ∷ words) = quoted word (further words)

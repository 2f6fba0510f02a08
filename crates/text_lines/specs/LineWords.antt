-- The words of one line of a text.
use Rattle.std.specs.Prelude.{◌≡◌, ℕ, List, [], ◌∷◌, ◌++◌, ◌==◌, ◌||◌, ◌&&◌, Bool, false, nat_le, length, Option, Some, None, if◌then◌else◌}
use Rattle.std.specs.Option.{option_and_then}
use Rattle.std.specs.Str.{is_utf8}
use Rattle.text_lines.specs.declared.words.WordPlace.{WordPlace}
use Rattle.text_lines.specs.declared.words.WordPlace.TheVariants as place
use Rattle.text_lines.specs.declared.words.WordReader.{WordReader}

-- Where one is in a line, with the bytes so far of the word that one is in: between words, within a
-- plain word, within a quoted one, or behind a quote in a quoted one.
pub data Within : Type 0 where
  Between : Within
  Plain : List ℕ → Within
  Quoted : List ℕ → Within
  Closed : List ℕ → Within

-- what one has read of a line: the words before, and where one is
pub record Reading : Type 0 where
  pub words : List (List ℕ)
  pub within : Within

-- a space or a tab, which separates words
abbrev pub is_separator : ℕ → Bool
is_separator b = (b == 32) || (b == 9)

-- a double quote
abbrev pub is_quote : ℕ → Bool
is_quote b = b == 34

-- What one has read with the next byte. A quote at a word's begin opens it. In a quoted word a
-- quote closes it where a separator follows; two quotes stand for one; else the word is ill formed.
abbrev pub after_byte : List (List ℕ) → Within → ℕ → Option Reading
after_byte words Between b =
    if is_separator b then Some (record { words = words; within = Between })
    else if is_quote b then Some (record { words = words; within = Quoted [] })
    else Some (record { words = words; within = Plain (b ∷ []) })
after_byte words (Plain word) b =
    if is_separator b then Some (record { words = words ++ word ∷ []; within = Between })
    else Some (record { words = words; within = Plain (word ++ b ∷ []) })
after_byte words (Quoted word) b =
    if is_quote b then Some (record { words = words; within = Closed word })
    else Some (record { words = words; within = Quoted (word ++ b ∷ []) })
after_byte words (Closed word) b =
    if is_separator b then Some (record { words = words ++ word ∷ []; within = Between })
    else if is_quote b then Some (record { words = words; within = Quoted (word ++ b ∷ []) })
    else None

-- the words where the line ends here, and none where a quoted word isn't closed
abbrev pub at_end : List (List ℕ) → Within → Option (List (List ℕ))
at_end words Between = Some words
at_end words (Plain word) = Some (words ++ word ∷ [])
at_end words (Quoted word) = None
at_end words (Closed word) = Some (words ++ word ∷ [])

-- the words of the line, where these bytes are still to be read
abbrev pub words_from : Reading → List ℕ → Option (List (List ℕ))
words_from r [] = at_end r.words r.within
words_from r (b ∷ rest) =
    option_and_then (λ next. words_from next rest) (after_byte r.words r.within b)

-- a line whose first byte is `#`
abbrev pub is_comment : List ℕ → Bool
is_comment [] = false
is_comment (b ∷ rest) = b == 35

-- at most 1,024 bytes, which are UTF-8
abbrev pub is_line : List ℕ → Bool
is_line line = nat_le (length line) 1024 && is_utf8 line

-- The words of a line, which are separated by one or more spaces or tabs. A word that begins with
-- a double quote runs to its closing quote; two quotes in it stand for one. A line whose first byte
-- is `#` has no words. None where the line is too long, isn't UTF-8 or has a word that isn't
-- closed.
abbrev pub line_words : List ℕ → Option (List (List ℕ))
line_words line =
    if is_line line
    then (if is_comment line then Some []
    else words_from (record { words = []; within = Between }) line)
    else None

-- where a reader is
abbrev pub within_of : WordPlace → List ℕ → Within
within_of place.Between word = Between
within_of place.Plain word = Plain word
within_of place.Quoted word = Quoted word
within_of place.Closed word = Closed word

-- what a reader has read
abbrev pub reading : WordReader → Reading
reading r = record { words = r.words.items; within = within_of r.place r.word.items }

-- a reader took a byte, or the byte is wrong there
abbrev pub Takes : WordReader → ℕ → WordReader → Bool → Type 0
Takes old b now good =
    after_byte (reading old).words (reading old).within b
    ≡ (if good then Some (reading now) else None)

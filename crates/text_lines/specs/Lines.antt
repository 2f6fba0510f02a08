-- The lines of a text.
use Rattle.std.specs.Prelude.{ℕ, ◌-◌, ◌==◌, List, [], ◌∷◌, ◌++◌, take, drop, length, bytes_eq, if◌then◌else◌}

-- a line without a carriage return at its end
abbrev pub without_cr : List ℕ → List ℕ
without_cr text =
    if bytes_eq (drop (length text - 1) text) (13 ∷ []) then take (length text - 1) text else text

-- what stands behind the last line feed is a line, unless it is empty
abbrev pub last_line : List ℕ → List (List ℕ)
last_line [] = []
last_line (b ∷ begun) = without_cr (b ∷ begun) ∷ []

-- the lines of a text behind those bytes of a line, each up to a line feed or the text's end
abbrev pub lines_from : List ℕ → List ℕ → List (List ℕ)
lines_from begun [] = last_line begun
lines_from begun (b ∷ rest) =
    if b == 10 then without_cr begun ∷ lines_from [] rest else lines_from (begun ++ b ∷ []) rest

abbrev pub lines_of : List ℕ → List (List ℕ)
lines_of text = lines_from [] text

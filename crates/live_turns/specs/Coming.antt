-- The lines of a text that comes in pieces.
use Rattle.std.specs.Prelude.{◌≡◌, ℕ, ◌==◌, List, [], ◌∷◌, ◌++◌, All, false, take, if◌then◌else◌}
use Rattle.text_lines.specs.Lines.{last_line, without_cr}

-- what is kept of a line that is begun: its first bytes
abbrev pub kept : ℕ → List ℕ → List ℕ
kept most begun = take most begun

-- the lines that end in a piece of a text, behind those bytes of a line that is begun
abbrev pub ended : ℕ → List ℕ → List ℕ → List (List ℕ)
ended most begun [] = []
ended most begun (b ∷ rest) =
    if b == 10 then without_cr begun ∷ ended most [] rest
    else ended most (kept most (begun ++ b ∷ [])) rest

-- what is kept of the line that is begun behind the piece
abbrev pub begun_by : ℕ → List ℕ → List ℕ → List ℕ
begun_by most begun [] = begun
begun_by most begun (b ∷ rest) =
    if b == 10 then begun_by most [] rest else begun_by most (kept most (begun ++ b ∷ [])) rest

-- the lines of a whole text, of each of which no more than so many bytes are kept
abbrev pub kept_lines : ℕ → List ℕ → List (List ℕ)
kept_lines most text = ended most [] text ++ last_line (begun_by most [] text)

abbrev pub HasNoFeed : List ℕ → Type 0
HasNoFeed text = All (λ b. (b == 10) ≡ false) text

-- Which origins a text names, one a line, or its first bad line.
use Rattle.std.specs.Prelude.{ℕ, ◌+◌, List, [], ◌∷◌, ◌++◌, length, nat_lt, Option, None, Some, Result, Ok, Err, if◌then◌else◌}
use Rattle.gtfs_rows.specs.Steps.{and_then}
use Rattle.text_lines.specs.LineWords.{line_words}
use Rattle.text_lines.specs.Lines.{lines_of}
use Rattle.lane_serve.specs.declared.origins.Naming.{Naming}
use Rattle.lane_serve.specs.declared.origins.Naming.TheVariants as naming
use Rattle.lane_serve.specs.declared.script.ScriptFault.{ScriptFault}
use Rattle.lane_serve.specs.declared.script.ScriptFault.TheVariants as fault

-- one word names an origin, and none says nothing
abbrev pub words_name : List (List ℕ) → Naming
words_name [] = naming.Nothing
words_name (name ∷ []) = naming.Origin name
words_name words = naming.Bad

-- what the words of a line name, where it has words
abbrev pub line_names : Option (List (List ℕ)) → Naming
line_names None = naming.Bad
line_names (Some words) = words_name words

-- what a text names up to a line: how many lines that is, and the origins
pub record OriginsSoFar : Type 0 where
  pub lines : ℕ
  pub names : List (List ℕ)

-- with line n, which names this
abbrev pub after_naming : OriginsSoFar → ℕ → Naming → Result OriginsSoFar ScriptFault
after_naming s n naming.Nothing = Ok (record { lines = n; names = s.names })
after_naming s n (naming.Origin name) = Ok (record { lines = n; names = s.names ++ name ∷ [] })
after_naming s n naming.Bad = Err (fault.BadLine n)

-- with one more line, or that it is bad
abbrev pub after_origin : OriginsSoFar → List ℕ → Result OriginsSoFar ScriptFault
after_origin s text = after_naming s (s.lines + 1) (line_names (line_words text))

-- the origins with these further lines, or the first bad one
abbrev pub origins_from : OriginsSoFar → List (List ℕ) → Result (List (List ℕ)) ScriptFault
origins_from s [] = Ok s.names
origins_from s (text ∷ rest) = and_then (after_origin s text) (λ next. origins_from next rest)

-- The origins that a text of at most 33,554,432 bytes names, in order, or its first fault. Lines
-- are counted from 1.
abbrev pub origins_of : List ℕ → Result (List (List ℕ)) ScriptFault
origins_of bytes =
    if nat_lt 33554432 (length bytes) then Err fault.TooLong
    else origins_from (record { lines = 0; names = [] }) (lines_of bytes)

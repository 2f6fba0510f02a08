-- Text without quotes: its records stand in it as they are.
use Rattle.std.specs.Prelude.{◌≡◌, ℕ, ◌==◌, ◌||◌, List, [], ◌∷◌, All, map, Bool, false, not, if◌then◌else◌}
use Rattle.std.specs.Borrow.{Bor}
use Rattle.csv.specs.Reading.{default_config, records}
use Rattle.gtfs_rows.specs.Records.{Record}

-- any byte but a quote
abbrev pub IsNoQuote : ℕ → Type 0
IsNoQuote b = (b == 34) ≡ false

-- no byte of the text is a quote
abbrev pub IsUnquoted : List ℕ → Type 0
IsUnquoted text = All IsNoQuote text

-- a carriage return or a line feed
abbrev pub is_line_end : ℕ → Bool
is_line_end b = (b == 13) || (b == 10)

-- a text without the line ends at its start
abbrev pub skip_line_ends : List ℕ → List ℕ
skip_line_ends [] = []
skip_line_ends (b ∷ rest) = if is_line_end b then skip_line_ends rest else b ∷ rest

-- a text that starts with a record
abbrev pub starts_record : List ℕ → Bool
starts_record [] = false
starts_record (b ∷ rest) = not (is_line_end b)

-- the records of a text
abbrev pub records_of : List ℕ → List Record
records_of text = records default_config text

-- the record of fields that stand in a text
abbrev pub record_of : List (Bor (List ℕ)) → Record
record_of fields = map (λ field. field.now) fields

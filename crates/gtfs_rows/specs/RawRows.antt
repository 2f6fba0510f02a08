-- The rows of a file by the names in its first row, and what is wrong with a file as a whole.
use Rattle.std.specs.Prelude.{◌≡◌, ℕ, ◌+◌, ◌-◌, ◌==◌, ◌||◌, List, [], ◌∷◌, map, take, drop, reverse, get_or, position, bytes_eq, Bool, Option, Some, None, is_none, option_to_list, zero, suc, Result, Ok, Err, if◌then◌else◌}
use Rattle.std.specs.List.{list_all}
use Rattle.std.specs.Str.{is_utf8}
use Rattle.gtfs_rows.specs.Records.{Record, RecordPosition, file_records}
use Rattle.gtfs_rows.specs.Steps.{and_then, prepend}
use Rattle.gtfs_rows.specs.Columns.{column_names, required_count, row_limit, rows_of_file}
use Rattle.gtfs_rows.specs.declared.fault.FeedFile.{FeedFile}
use Rattle.gtfs_rows.specs.declared.fault.FeedFault.{FeedFault}
use Rattle.gtfs_rows.specs.declared.fault.FeedFault.TheVariants as fault

abbrev pub is_blank : ℕ → Bool
is_blank b = (b == 32) || (b == 9)

-- a text without the spaces and tabs at its start
abbrev pub cut_start : List ℕ → List ℕ
cut_start [] = []
cut_start (b ∷ rest) = if is_blank b then cut_start rest else b ∷ rest

-- a text without the spaces and tabs at both ends
abbrev pub cut : List ℕ → List ℕ
cut text = reverse (cut_start (reverse (cut_start text)))

-- a record of which no field has anything but spaces and tabs
abbrev pub is_empty_record : Record → Bool
is_empty_record fields = list_all (list_all is_blank) fields

-- a row of a file: its number, and its cells in the order of the file's columns
pub record RawRow : Type 0 where
  pub row : ℕ
  pub cells : List (List ℕ)

-- the cell in a column, which is a number from 1
abbrev pub cell : RawRow → ℕ → List ℕ
cell raw column = get_or raw.cells (column - 1) []

-- the names in a file's first row
abbrev pub header : List Record → List (List ℕ)
header [] = []
header (fields ∷ rest) = map cut fields

-- the header is the first record, an empty one where there is none, and the others follow it
pub record IsOpened (all left : List Record) (current : Record) : Type 0 where
  pub head : header all ≡ map cut current
  pub rest : drop 1 all ≡ left

-- the position of each column in the header: of two equal names the first counts
abbrev pub positions : List (List ℕ) → List (List ℕ) → List (Option ℕ)
positions names head = map (λ name. position (bytes_eq name) head) names

-- the field of a record at a position, empty where the record is short or the column isn't there
abbrev pub field_at_position : Record → Option ℕ → List ℕ
field_at_position fields None = []
field_at_position fields (Some i) = cut (get_or fields i [])

-- the rows from a number on: those without anything in them are passed over, and keep their numbers
abbrev pub raw_rows_from : List (Option ℕ) → ℕ → List Record → List RawRow
raw_rows_from columns row [] = []
raw_rows_from columns row (fields ∷ rest) =
    if is_empty_record fields then raw_rows_from columns (row + 1) rest
    else record { row = row; cells = map (field_at_position fields) columns }
    ∷ raw_rows_from columns (row + 1) rest

-- the rows after the first
abbrev pub raw_rows : FeedFile → List Record → List RawRow
raw_rows file records =
    raw_rows_from (positions (column_names file) (header records)) 2 (drop 1 records)

-- the bytes are text
abbrev pub check_utf8 : FeedFile → List ℕ → Result (List ℕ) FeedFault
check_utf8 file bytes = if is_utf8 bytes then Ok bytes else Err (fault.NotUtf8 file)

-- a required column that the first row lacks is a fault there
abbrev pub missing_fault : {A : Type 0} → FeedFile → Option ℕ → A → Result A FeedFault
missing_fault file None found = Ok found
missing_fault file (Some i) found =
    Err (fault.MissingColumn (record { file = file; row = 1; column = i + 1 }))

-- each required column is in the header: the first that isn't there is a fault
abbrev pub check_columns : {A : Type 0} → FeedFile → List (List ℕ) → A → Result A FeedFault
check_columns file head found =
    missing_fault file
    (position is_none (take (required_count file) (positions (column_names file) head))) found

-- the rows of a file's bytes, or what is wrong with the file as a whole
abbrev pub table : FeedFile → List ℕ → Result (List RawRow) FeedFault
table file bytes =
    and_then (check_utf8 file bytes) (λ text.
    and_then (check_columns file (header (file_records text)) (file_records text)) (λ records.
    Ok (raw_rows file records)))

-- the typed rows, of which so many may come, or the first thing that is wrong with a row
abbrev pub shape : {A : Type 0} → FeedFile → (RawRow → Result (Option A) FeedFault) → ℕ →
    List RawRow → Result (List A) FeedFault
shape file read room [] = Ok []
shape file read zero (raw ∷ rest) = Err (fault.TooMany (rows_of_file file) raw.row)
shape file read (suc room) (raw ∷ rest) =
    and_then (read raw) (λ row. prepend (option_to_list row) (shape file read room rest))

-- the typed rows of a file, or its first fault
abbrev pub typed_rows : {A : Type 0} → FeedFile → (RawRow → Result (Option A) FeedFault) → List ℕ →
    Result (List A) FeedFault
typed_rows file read bytes = and_then (table file bytes) (shape file read (row_limit file))

-- a position among the rows of a file: the one that was read last, and those that follow it
pub record RowPosition : Type 0 where
  pub current : RawRow
  pub left : List RawRow

-- the same, of records and the positions of the columns
abbrev pub row_position : List (Option ℕ) → ℕ → RecordPosition → RowPosition
row_position columns row records = record {
  current = record { row = row; cells = map (field_at_position records.current) columns };
  left = raw_rows_from columns (row + 1) records.left;
}

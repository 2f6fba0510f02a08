-- No row bears a fault that ends what is read of a file of which bad rows are left out.
use Rattle.std.proofs.Common.{◌≡◌, ◌∙◌, refl, sym, ap, ℕ, zero, suc, ◌+◌, List, [], ◌∷◌, Option, Some, None, Bool, true, false}
use Rattle.std.specs.Prelude.{Result, Ok, Err, is_none, option_to_list, position, take, if◌then◌else◌}
use Rattle.std.specs.Str.{is_utf8}
use Rattle.gtfs_rows.specs.Columns.{column_names, required_count, row_limit, rows_of_file}
use Rattle.gtfs_rows.specs.LeftOut.{bearer}
use Rattle.gtfs_rows.specs.RawRows.{RawRow, check_columns, check_utf8, header, missing_fault, positions, raw_rows, shape, table, typed_rows}
use Rattle.gtfs_rows.specs.Records.{file_records}
use Rattle.gtfs_rows.specs.Steps.{and_then, prepend}
use Rattle.gtfs_rows.specs.declared.fault.FeedFile.{FeedFile}
use Rattle.gtfs_rows.specs.declared.fault.FeedFault.{FeedFault}
use Rattle.gtfs_rows.specs.declared.fault.FeedFault.TheVariants as fault
use Rattle.trip_table.specs.Feed.{or_missing, rows_in}

one_fault : {A : Type 0} (g f : FeedFault) → (let r : Result A FeedFault = Err g in r) ≡ Err f → g ≡ f
one_fault g f e = cc

is_unborne : {A : Type 0} (g f : FeedFault) → bearer g ≡ None → (let r : Result A FeedFault = Err g in r) ≡ Err f → bearer f ≡ None
is_unborne g f none e = ap bearer (sym (one_fault g f e)) ∙ none

-- a step or the next one ends it
pub either : {A B : Type 0} (m : Result A FeedFault) (next : A → Result B FeedFault) (f : FeedFault) → ((g : FeedFault) → m ≡ Err g → bearer g ≡ None) → ((x : A) → m ≡ Ok x → (g : FeedFault) → next x ≡ Err g → bearer g ≡ None) → and_then m next ≡ Err f → bearer f ≡ None
either (Ok x) next f first second e = second x refl f e
either {A} {B} (Err g) next f first second e = is_unborne {A = B} g f (first g refl) e

prepend_err : {A : Type 0} (xs : List A) (rest : Result (List A) FeedFault) (f : FeedFault) → prepend xs rest ≡ Err f → rest ≡ Err f
prepend_err xs (Ok ys) f e = absurd (cc)
prepend_err xs (Err g) f e = e

shape_unborne : {A : Type 0} (file : FeedFile) (read : RawRow → Option A) (room : ℕ) (rows : List RawRow) (f : FeedFault) → shape file (λ raw. Ok (read raw)) room rows ≡ Err f → bearer f ≡ None
shape_unborne file read room [] f e = absurd (cc)
shape_unborne {A} file read zero (raw ∷ rest) f e = is_unborne {A = List A} (fault.TooMany (rows_of_file file) raw.row) f refl e
shape_unborne file read (suc room) (raw ∷ rest) f e = shape_unborne file read room rest f (prepend_err (option_to_list (read raw)) (shape file (λ raw. Ok (read raw)) room rest) f e)

utf8_unborne : (file : FeedFile) (bytes : List ℕ) (b : Bool) (f : FeedFault) → (let r : Result (List ℕ) FeedFault = if b then Ok bytes else Err (fault.NotUtf8 file) in r) ≡ Err f → bearer f ≡ None
utf8_unborne file bytes true f e = absurd (cc)
utf8_unborne file bytes false f e = is_unborne {A = List ℕ} (fault.NotUtf8 file) f refl e

column_unborne : {A : Type 0} (file : FeedFile) (o : Option ℕ) (found : A) (f : FeedFault) → missing_fault file o found ≡ Err f → bearer f ≡ None
column_unborne file None found f e = absurd (cc)
column_unborne {A} file (Some i) found f e = is_unborne {A = A} (fault.MissingColumn (record { file = file; row = 1; column = i + 1 })) f refl e

none_ends : {A : Type 0} (x : A) (f : FeedFault) → (let r : Result A FeedFault = Ok x in r) ≡ Err f → bearer f ≡ None
none_ends x f e = absurd (cc)

table_unborne : (file : FeedFile) (bytes : List ℕ) (f : FeedFault) → table file bytes ≡ Err f → bearer f ≡ None
table_unborne file bytes f e =
    either (check_utf8 file bytes) _ f (λ g q. utf8_unborne file bytes (is_utf8 bytes) g q)
    (λ text is g q.
    either (check_columns file (header (file_records text)) (file_records text)) _ g
    (λ h r. column_unborne file (position is_none (take (required_count file) (positions (column_names file) (header (file_records text))))) (file_records text) h r) (λ records i h r. none_ends (raw_rows file records) h r) q) e

typed_unborne : {A : Type 0} (file : FeedFile) (read : RawRow → Option A) (bytes : List ℕ) (f : FeedFault) → typed_rows file (λ raw. Ok (read raw)) bytes ≡ Err f → bearer f ≡ None
typed_unborne file read bytes f e = either (table file bytes) (shape file (λ raw. Ok (read raw)) (row_limit file)) f (λ g q. table_unborne file bytes g q) (λ rows is g q. shape_unborne file read (row_limit file) rows g q) e

-- what is read of a file, where no row is refused
pub rows_unborne : {A : Type 0} (file : FeedFile) (read : RawRow → Option A) (text : Option (List ℕ)) (f : FeedFault) → rows_in file (λ raw. Ok (read raw)) text ≡ Err f → bearer f ≡ None
rows_unborne file read None f e = absurd (cc)
rows_unborne file read (Some bytes) f e = either (typed_rows file (λ raw. Ok (read raw)) bytes) (λ rows. Ok (Some rows)) f (λ g q. typed_unborne file read bytes g q) (λ rows is g q. none_ends (Some rows) g q) e

-- a file that isn't there
pub missing_unborne : {A : Type 0} (file : FeedFile) (o : Option (List A)) (f : FeedFault) → or_missing file o ≡ Err f → bearer f ≡ None
missing_unborne {A} file None f e = is_unborne {A = List A} (fault.MissingFile file) f refl e
missing_unborne file (Some rows) f e = absurd (cc)

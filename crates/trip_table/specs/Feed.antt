-- The files of a feed, and the rows that they have.
use Rattle.std.specs.Prelude.{ℕ, List, ◌++◌, length, codes, nat_le, Option, Some, None, Result, Ok, Err, if◌then◌else◌}
use Rattle.tb_io.specs.Files.{FileList, file_at}
use Rattle.gtfs_rows.specs.Steps.{and_then}
use Rattle.gtfs_rows.specs.FileNames.{file_name}
use Rattle.gtfs_rows.specs.RawRows.{RawRow, typed_rows}
use Rattle.gtfs_rows.specs.declared.fault.FeedFile.{FeedFile}
use Rattle.gtfs_rows.specs.declared.fault.FeedFault.{FeedFault}
use Rattle.gtfs_rows.specs.declared.fault.FeedFault.TheVariants as fault

-- a feed: the bytes of each of its files that is there
abbrev pub Feed : Type 0
Feed = FeedFile → Option (List ℕ)

-- the path of a file: the directory, a slash and the file's name
abbrev pub path_in : List ℕ → FeedFile → List ℕ
path_in dir file = dir ++ codes "/" ++ file_name file

-- the feed in a directory of a folder
abbrev pub feed_in : FileList → List ℕ → Feed
feed_in files dir file = file_at files (path_in dir file)

abbrev pub check_file_size : FeedFile → List ℕ → Result (List ℕ) FeedFault
check_file_size file bytes =
    if nat_le (length bytes) 1073741824 then Ok bytes else Err (fault.FileTooLarge file)

-- the bytes of a file, where it is there
abbrev pub sized : FeedFile → Option (List ℕ) → Result (Option (List ℕ)) FeedFault
sized file None = Ok None
sized file (Some bytes) = and_then (check_file_size file bytes) (λ text. Ok (Some text))

-- the rows in a file's bytes, where it is there
abbrev pub rows_in : {A : Type 0} → FeedFile → (RawRow → Result (Option A) FeedFault) →
    Option (List ℕ) → Result (Option (List A)) FeedFault
rows_in file read None = Ok None
rows_in file read (Some bytes) = and_then (typed_rows file read bytes) (λ rows. Ok (Some rows))

-- the typed rows of a file, where it is there
abbrev pub file_rows : {A : Type 0} → Feed → FeedFile → (RawRow → Result (Option A) FeedFault) →
    Result (Option (List A)) FeedFault
file_rows feed file read = and_then (sized file (feed file)) (rows_in file read)

abbrev pub or_missing : {A : Type 0} → FeedFile → Option (List A) → Result (List A) FeedFault
or_missing file None = Err (fault.MissingFile file)
or_missing file (Some rows) = Ok rows

-- the typed rows of a file that has to be there
abbrev pub required : {A : Type 0} → Feed → FeedFile → (RawRow → Result (Option A) FeedFault) →
    Result (List A) FeedFault
required feed file read = and_then (file_rows feed file read) (or_missing file)

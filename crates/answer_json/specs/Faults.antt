-- Faults as JSON: the number, the name and where it is.
use Rattle.std.specs.Prelude.{ℕ, List, [], ◌++◌, codes, Option, Some, None, zero, suc}
use Rattle.std.specs.Fmt.{decimal}
use Rattle.gtfs_rows.specs.FileNames.{file_name}
use Rattle.gtfs_rows.specs.declared.fault.FeedFault.{FeedFault}
use Rattle.gtfs_rows.specs.declared.fault.FeedFault.TheVariants as fault
use Rattle.gtfs_rows.specs.declared.fault.FeedFile.{FeedFile}
use Rattle.gtfs_rows.specs.declared.fault.Many.{Many}
use Rattle.gtfs_rows.specs.declared.fault.Spot.{Spot}
use Rattle.answer_text.specs.Faults.{column_name, many_text}
use Rattle.answer_json.specs.Frames.{count_json, member_json, string_json}

-- `{"number":N,"name":NAME`
abbrev pub head_json : ℕ → List ℕ → List ℕ
head_json number name =
    codes "{\"number\":" ++ decimal number ++ member_json (codes "name") name

-- `,"file":FILE}`
abbrev pub file_json : FeedFile → List ℕ
file_json file = member_json (codes "file") (file_name file) ++ codes "}"

-- `,"file":FILE,"row":N,"column":NAME}`
abbrev pub spot_json : Spot → List ℕ
spot_json spot =
    member_json (codes "file") (file_name spot.file) ++ count_json (codes "row") spot.row
    ++ member_json (codes "column") (column_name spot) ++ codes "}"

-- the row past the limit; a total has none, which is said by 0
abbrev pub row_json : ℕ → List ℕ
row_json zero = []
row_json (suc n) = count_json (codes "row") (suc n)

-- `,"quantity":NAME,"row":N}`, or without a row
abbrev pub many_json : Many → ℕ → List ℕ
many_json many row = member_json (codes "quantity") (many_text many) ++ row_json row ++ codes "}"

-- `,"stops":[STOP,STOP`
abbrev pub two_json : List ℕ → List ℕ → List ℕ
two_json p q = codes ",\"stops\":[" ++ string_json p ++ codes "," ++ string_json q

-- a fault of a feed: its number, its name and its details
abbrev pub fault_json : FeedFault → List ℕ
fault_json (fault.MissingFile file) = head_json 1 (codes "MissingFile") ++ file_json file
fault_json (fault.FileTooLarge file) = head_json 2 (codes "FileTooLarge") ++ file_json file
fault_json (fault.NotUtf8 file) = head_json 3 (codes "NotUtf8") ++ file_json file
fault_json (fault.MissingColumn spot) = head_json 4 (codes "MissingColumn") ++ spot_json spot
fault_json (fault.BadNumber spot) = head_json 5 (codes "BadNumber") ++ spot_json spot
fault_json (fault.BadTime spot) = head_json 6 (codes "BadTime") ++ spot_json spot
fault_json (fault.BadDate spot) = head_json 7 (codes "BadDate") ++ spot_json spot
fault_json (fault.BadCode spot) = head_json 8 (codes "BadCode") ++ spot_json spot
fault_json (fault.EmptyId spot) = head_json 9 (codes "EmptyId") ++ spot_json spot
fault_json (fault.DuplicateId spot) = head_json 10 (codes "DuplicateId") ++ spot_json spot
fault_json (fault.UnknownStop spot) = head_json 11 (codes "UnknownStop") ++ spot_json spot
fault_json (fault.UnknownTrip spot) = head_json 12 (codes "UnknownTrip") ++ spot_json spot
fault_json (fault.DuplicateSequence spot) =
    head_json 13 (codes "DuplicateSequence") ++ spot_json spot
fault_json (fault.NoEndTime spot) = head_json 14 (codes "NoEndTime") ++ spot_json spot
fault_json (fault.TimeRunsBack spot) = head_json 15 (codes "TimeRunsBack") ++ spot_json spot
fault_json (fault.NotAPlatform spot) = head_json 16 (codes "NotAPlatform") ++ spot_json spot
fault_json (fault.DuplicateTransfer spot) =
    head_json 17 (codes "DuplicateTransfer") ++ spot_json spot
fault_json (fault.OpenFootpaths p q r) =
    head_json 18 (codes "OpenFootpaths") ++ two_json p q ++ codes "," ++ string_json r ++ codes "]}"
fault_json (fault.LongFootpath p q r) =
    head_json 19 (codes "LongFootpath") ++ two_json p q ++ codes "," ++ string_json r ++ codes "]}"
fault_json (fault.TooMany many row) = head_json 20 (codes "TooMany") ++ many_json many row
fault_json (fault.FarFootpath p q) =
    head_json 22 (codes "FarFootpath") ++ two_json p q ++ codes "]}"
fault_json (fault.BeyondDay spot) = head_json 23 (codes "BeyondDay") ++ spot_json spot

-- the line of a text at which its fault is, where it has one
abbrev pub line_json : Option ℕ → List ℕ
line_json None = []
line_json (Some line) = count_json (codes "line") line

-- a fault of a text in lines: `{"number":N,"name":NAME,"line":N}`
abbrev pub line_fault_json : ℕ → List ℕ → Option ℕ → List ℕ
line_fault_json number name line = head_json number name ++ line_json line ++ codes "}"

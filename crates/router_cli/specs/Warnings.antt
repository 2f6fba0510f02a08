-- What the program writes of what is read, but likely not meant.
use Rattle.std.specs.Prelude.{ℕ, ◌-◌, List, [], ◌++◌, bytes_eq, codes, filter, flat_map, length, nat_lt, take, zero, suc, Bool, if◌then◌else◌}
use Rattle.std.specs.Fmt.{decimal}
use Rattle.gtfs_rows.specs.FileNames.{file_name}
use Rattle.gtfs_rows.specs.Told.{most_kept}
use Rattle.gtfs_rows.specs.declared.fault.FeedFile.{FeedFile}
use Rattle.gtfs_rows.specs.declared.fault.FeedFile.TheVariants as file
use Rattle.answer_text.specs.Builds.{labelled}
use Rattle.answer_json.specs.Frames.{count_json, member_json, string_json}
use Rattle.trip_table.specs.declared.warning.Warning.{Warning}
use Rattle.trip_table.specs.declared.warning.Warning.TheVariants as warning

abbrev pub warning_name : Warning → List ℕ
warning_name (warning.UnknownService row) = codes "UnknownService"
warning_name warning.NoTrips = codes "NoTrips"
warning_name (warning.UnservedStop row) = codes "UnservedStop"
warning_name (warning.Closing added lowered) = codes "Closing"
warning_name (warning.LongHeadway row) = codes "LongHeadway"

-- `warning NAME`, or `{"warning":NAME`
abbrev pub warning_head : Bool → List ℕ → List ℕ
warning_head json name =
    if json then codes "{\"warning\":" ++ string_json name else codes "warning " ++ name

-- ` FILE row N`, or `,"file":FILE,"row":N`
abbrev pub warning_row : Bool → FeedFile → ℕ → List ℕ
warning_row json which row =
    if json then member_json (codes "file") (file_name which) ++ count_json (codes "row") row
    else codes " " ++ file_name which ++ labelled (codes " row ") row

-- ` added N lowered N`, or `,"added":N,"lowered":N`
abbrev pub warning_counts : Bool → ℕ → ℕ → List ℕ
warning_counts json added lowered =
    if json then count_json (codes "added") added ++ count_json (codes "lowered") lowered
    else labelled (codes " added ") added ++ labelled (codes " lowered ") lowered

abbrev pub warning_details : Bool → Warning → List ℕ
warning_details json (warning.UnknownService row) = warning_row json file.Trips row
warning_details json warning.NoTrips = []
warning_details json (warning.UnservedStop row) = warning_row json file.Stops row
warning_details json (warning.Closing added lowered) = warning_counts json added lowered
warning_details json (warning.LongHeadway row) = warning_row json file.Frequencies row

abbrev pub warning_tail : Bool → List ℕ
warning_tail json = if json then codes "}\n" else codes "\n"

-- a warning as a line
abbrev pub warning_line : Bool → Warning → List ℕ
warning_line json w =
    warning_head json (warning_name w) ++ warning_details json w ++ warning_tail json

-- `and N more of NAME`, or `{"more":N,"warning":NAME}`: how many more of a kind there are than are
-- told one by one, where there are more
abbrev pub more_of : Bool → List ℕ → ℕ → List ℕ
more_of json name zero = []
more_of json name (suc n) =
    (if json then codes "{\"more\":" ++ decimal (suc n) ++ member_json (codes "warning") name
    else labelled (codes "and ") (suc n) ++ codes " more of " ++ name)
    ++ warning_tail json

-- a warning as a line, if fewer than 10,000 of its kind come before it
abbrev pub kept_line : Bool → ℕ → Warning → List ℕ
kept_line json count w = if nat_lt count most_kept then warning_line json w else []

-- warnings of one kind: the first 10,000, and how many more there are
abbrev pub kind_lines : Bool → List ℕ → List Warning → List ℕ
kind_lines json name found =
    flat_map (warning_line json) (take most_kept found)
    ++ more_of json name (length found - most_kept)

abbrev pub of_kind : List ℕ → Warning → Bool
of_kind name w = bytes_eq name (warning_name w)

abbrev pub kind_shown : Bool → List Warning → List ℕ → List ℕ
kind_shown json warnings name = kind_lines json name (filter (of_kind name) warnings)

-- `warnings N`, or `{"warnings":N}`
abbrev pub warning_count : Bool → ℕ → List ℕ
warning_count json n =
    labelled (if json then codes "{\"warnings\":" else codes "warnings ") n ++ warning_tail json

-- all, kind after kind, and how many there are
abbrev pub warnings_shown : Bool → List Warning → List ℕ
warnings_shown json warnings =
    kind_shown json warnings (codes "UnknownService") ++ kind_shown json warnings (codes "NoTrips")
    ++ kind_shown json warnings (codes "UnservedStop")
    ++ kind_shown json warnings (codes "Closing")
    ++ kind_shown json warnings (codes "LongHeadway") ++ warning_count json (length warnings)

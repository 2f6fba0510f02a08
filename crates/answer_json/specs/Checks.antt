-- All faults of a feed as JSON, and what is left out for them.
use Rattle.std.specs.Prelude.{ℕ, ◌-◌, List, [], ◌∷◌, ◌++◌, codes, flat_map, zero, suc, Bool, if◌then◌else◌}
use Rattle.std.specs.Fmt.{decimal}
use Rattle.gtfs_rows.specs.FileNames.{file_name}
use Rattle.gtfs_rows.specs.Told.{Told, count_of, most_kept}
use Rattle.gtfs_rows.specs.declared.fault.FeedFault.{FeedFault}
use Rattle.gtfs_rows.specs.declared.fault.FeedFile.{FeedFile}
use Rattle.answer_text.specs.Checks.{all_files, bad_rows, check_text, fault_numbers, left_out_text}
use Rattle.answer_json.specs.Faults.{fault_json}
use Rattle.answer_json.specs.Frames.{count_json}

-- a fault as a line
abbrev pub fault_json_line : FeedFault → List ℕ
fault_json_line f = fault_json f ++ codes "\n"

-- `{"more":N,"number":N}`: how many more faults of a number there are than are told one by one,
-- where there are more
abbrev pub more_json : ℕ → ℕ → List ℕ
more_json number zero = []
more_json number (suc n) =
    codes "{\"more\":" ++ decimal (suc n) ++ count_json (codes "number") number ++ codes "}\n"

abbrev pub more_json_line : Told → ℕ → List ℕ
more_json_line told number = more_json number (count_of told number - most_kept)

-- the faults that are told one by one, how many more there are of each number, and how many there
-- are of all: `{"faults":N}`
abbrev pub check_json : Told → ℕ → List ℕ
check_json told count =
    flat_map fault_json_line told.kept ++ flat_map (more_json_line told) fault_numbers
    ++ codes "{\"faults\":" ++ decimal count ++ codes "}\n"

-- the same as JSON, or as a text
abbrev pub shown_check : Bool → Told → ℕ → List ℕ
shown_check json told count = if json then check_json told count else check_text told count

-- `,"FILE":N`: how many rows of a file bear faults, where some do
abbrev pub left_member : FeedFile → ℕ → List ℕ
left_member which zero = []
left_member which (suc n) = count_json (file_name which) (suc n)

abbrev pub left_members : List FeedFault → List FeedFile → List ℕ
left_members faults files = flat_map (λ which. left_member which (bad_rows faults which)) files

-- the line for standard error where rows were left out for these faults: none where there are none
abbrev pub left_out_json : List FeedFault → List ℕ
left_out_json [] = []
left_out_json (f ∷ faults) =
    codes "{\"message\":\"left out\"" ++ left_members (f ∷ faults) all_files ++ codes "}\n"

-- the same as JSON, or as a text
abbrev pub shown_left_out : Bool → List FeedFault → List ℕ
shown_left_out json faults = if json then left_out_json faults else left_out_text faults

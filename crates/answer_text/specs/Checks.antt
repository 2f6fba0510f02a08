-- All faults of a feed as texts, and what is left out for them.
use Rattle.std.specs.Prelude.{ℕ, ◌-◌, ◌==◌, ◌||◌, List, [], ◌∷◌, ◌++◌, codes, count_by, flat_map, nat_lt, zero, suc, Bool, true, false, Option, Some, None, if◌then◌else◌}
use Rattle.std.specs.Fmt.{decimal}
use Rattle.gtfs_rows.specs.FileNames.{file_name, is_file}
use Rattle.gtfs_rows.specs.LeftOut.{bearer}
use Rattle.gtfs_rows.specs.Told.{Told, count_of, most_kept}
use Rattle.gtfs_rows.specs.declared.fault.FeedFault.{FeedFault}
use Rattle.gtfs_rows.specs.declared.fault.FeedFile.{FeedFile}
use Rattle.gtfs_rows.specs.declared.fault.FeedFile.TheVariants as file
use Rattle.gtfs_rows.specs.declared.fault.Spot.{Spot}
use Rattle.answer_text.specs.Builds.{labelled}
use Rattle.answer_text.specs.Faults.{fault_text}

-- the numbers of faults
abbrev pub fault_numbers : List ℕ
fault_numbers =
    1 ∷ 2 ∷ 3 ∷ 4 ∷ 5 ∷ 6 ∷ 7 ∷ 8 ∷ 9 ∷ 10 ∷ 11 ∷ 12 ∷ 13 ∷ 14 ∷ 15 ∷ 16 ∷ 17 ∷ 18 ∷ 19 ∷ 20 ∷ 22
    ∷ 23 ∷ []

-- a fault as a line
abbrev pub fault_line : FeedFault → List ℕ
fault_line f = fault_text f ++ codes "\n"

-- how many more faults of a number there are than are told one by one, where there are more
abbrev pub more_text : ℕ → ℕ → List ℕ
more_text number zero = []
more_text number (suc n) =
    labelled (codes "and ") (suc n) ++ labelled (codes " more of number ") number ++ codes "\n"

abbrev pub more_line : Told → ℕ → List ℕ
more_line told number = more_text number (count_of told number - most_kept)

-- the faults that are told one by one, how many more there are of each number, and how many there
-- are of all
abbrev pub check_text : Told → ℕ → List ℕ
check_text told count =
    flat_map fault_line told.kept ++ flat_map (more_line told) fault_numbers
    ++ codes "faults " ++ decimal count ++ codes "\n"

-- the files of a feed in the order of reference
abbrev pub all_files : List FeedFile
all_files =
    file.Stops ∷ file.Calendar ∷ file.CalendarDates ∷ file.Trips ∷ file.StopTimes ∷ file.Transfers
    ∷ file.Frequencies ∷ []

-- whether the row at a spot, if there is one, is of a file
abbrev pub is_at : FeedFile → Option Spot → Bool
is_at which None = false
is_at which (Some spot) = is_file spot.file which

-- how many of some faults are borne by rows of a file
abbrev pub bad_rows : List FeedFault → FeedFile → ℕ
bad_rows faults which = count_by (λ f. is_at which (bearer f)) faults

-- `1 row`, or `N rows`
abbrev pub rows_text : ℕ → List ℕ
rows_text n = decimal n ++ (if n == 1 then codes " row" else codes " rows")

-- for rows of stop_times.txt their trips are left out
abbrev pub trips_for : FeedFile → List ℕ
trips_for file.StopTimes = codes "trips for "
trips_for which = []

-- rows of a file for which something is left out: nothing where there is none, and behind a comma
-- where it isn't the first
abbrev pub comma : Bool → List ℕ
comma later = if later then codes ", " else []

abbrev pub left_part : Bool → FeedFile → ℕ → List ℕ
left_part later which zero = []
left_part later which (suc n) =
    comma later ++ trips_for which ++ rows_text (suc n) ++ codes " of " ++ file_name which

-- the same of files in their order
abbrev pub left_parts : Bool → List FeedFault → List FeedFile → List ℕ
left_parts later faults [] = []
left_parts later faults (which ∷ rest) =
    left_part later which (bad_rows faults which)
    ++ left_parts (later || nat_lt 0 (bad_rows faults which)) faults rest

-- the line for standard error where rows were left out for these faults: none where there are none
abbrev pub left_out_text : List FeedFault → List ℕ
left_out_text [] = []
left_out_text (f ∷ faults) =
    codes "router: left out " ++ left_parts false (f ∷ faults) all_files
    ++ codes " (see check)\n"
